-- Act by act: each arm returns the numbers that the definition lists.
use Rattle.desk_packing_law.proofs.Packs.{packs_entry, packs_act}
use Rattle.desk_packing.proofs.events.pack.Goals as goal

pub returns-in-Enter : goal.returns-in-Enter
returns-in-Enter c = search packs_entry

pub returns-in-Withdraw : goal.returns-in-Withdraw
returns-in-Withdraw c = search packs_act

pub returns-in-Under : goal.returns-in-Under
returns-in-Under c = search packs_act

pub returns-in-Clock : goal.returns-in-Clock
returns-in-Clock c = search packs_act

pub returns-in-Finish : goal.returns-in-Finish
returns-in-Finish c = search packs_act
