use Rattle.std.proofs.Common.{◌≡◌, ◌<◌, ℕ, [], get_or, length}
use Rattle.board.specs.Flash.{blank}
use Rattle.board.proofs.cache.blank_pages.Given as goal

abbrev pub invariant-loop-page : goal.invariant-loop-page
invariant-loop-page l = record { count : length l.pages.items ≡ l._page; blank : (p : ℕ) → p < l._page → get_or l.pages.items p [] ≡ blank }
