use Rattle.control_defs.proofs.Covering.{covers_from_keys, covers_keys}
use Rattle.control_defs.proofs.laws.covering_is_inclusion.Goals as goal

pub returns : goal.returns
returns c p q range octets = (λ h key is covered. covers_keys p q key h covered, covers_from_keys p q range octets)
