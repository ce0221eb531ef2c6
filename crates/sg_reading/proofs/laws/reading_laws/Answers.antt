use Rattle.sg_reading.proofs.Readings.{reads_guard, guards_stay, replies_stay, held_stay, fences_stay, stretches_stay}
use Rattle.sg_reading.proofs.laws.reading_laws.Goals as goal

pub returns : goal.returns
returns c = record { guards = reads_guard; stay = guards_stay; replies = replies_stay; held = held_stay; fences = fences_stay; stretches = stretches_stay }
