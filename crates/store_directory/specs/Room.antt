-- What a contract sees of a list of links.
use Rattle.std.specs.Prelude.{ℕ, List}
use Rattle.record_view.specs.declared.link.Link.{Link}

-- the links in order, and how many fit with no more memory
pub record Room : Type 0 where
  pub items : List Link
  pub room : ℕ
