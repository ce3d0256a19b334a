-- What was read from a text means.
use Rattle.store_directory.specs.Changes.{Change, Links}
use Rattle.store_directory.specs.Checkpoints.{Checkpoint, whole}
use Rattle.store_directory.specs.Directory.{Listed}
use Rattle.store_directory.specs.Kept.{change_of}
use Rattle.store_directory.specs.declared.change_text.Spelled as declared
use Rattle.store_directory.specs.declared.change_text.Spelled.TheVariants as variants
use Rattle.store_directory.specs.declared.checkpoint_text.CheckpointText.{CheckpointText}
use Rattle.store_directory.specs.declared.store_text.StoreText.{StoreText}

-- a change
abbrev pub meaning_of : declared.Spelled → Change
meaning_of (variants.Links store links) = Links store links
meaning_of (variants.Other change) = change_of change

-- a store
abbrev pub text_of : StoreText → Listed
text_of s = record { row = s.row; patterns = s.patterns; links = s.links }

-- a checkpoint
abbrev pub checkpoint_of : CheckpointText → Checkpoint
checkpoint_of c = whole c.now c.reports c.forward c.stores c.wear
