-- Each field is the definition's; the category comes from a call.
use Rattle.desk_packing_law.proofs.Packs.{settings_with}
use Rattle.desk_packing.proofs.settings.settings_at.Goals as goal

pub returns : goal.returns
returns c = search settings_with
