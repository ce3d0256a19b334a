-- A store on an image: its row and its links, with the records that they keep.
use Rattle.std.specs.Prelude.{◌≡◌, ◌≤◌, ◌<◌, ◌^◌, ℕ, List, length, Some}
use Rattle.std.specs.List.{All}
use Rattle.board.specs.Flash.{IsContent}
use Rattle.record_view.specs.Records.{Meaning}
use Rattle.record_view.specs.declared.link.Link.{Link}
use Rattle.store_directory.specs.declared.row.Row.{Row}
use Rattle.store_load.specs.Kept.{kept_of}
use Rattle.store_load.specs.declared.rule.Rule.{Rule}

-- a link's block is one of a device of so many blocks
abbrev pub IsInDevice : (blocks : ℕ) → Link → Type 0
IsInDevice blocks link = link.block < blocks

-- and its first number is one of a record
pub record IsLinkOf (blocks : ℕ) (link : Link) : Type 0 where
  pub block : link.block < blocks
  pub first : link.first < 2 ^ 32

-- A store keeps these records on an image.
pub record Keeps (rule : Rule) (blocks : ℕ) (image : ℕ → List ℕ) (now : ℕ) (row : Row)
    (links : List Link) (records : List Meaning) : Type 0 where
  pub pages : IsContent blocks image
  pub count : row.count ≤ 100000
  pub first : row.first < 2 ^ 32
  pub few : length links ≤ 512
  pub each_link : All (IsLinkOf blocks) links
  pub kept : kept_of rule image now row links ≡ Some records
