use Rattle.std.proofs.Common.{◌≡◌, ◌≤◌, length}
use Rattle.store_put.specs.Recording.{stored_by}
use Rattle.vault.specs.Memory.{InMemory}
use Rattle.vault.specs.Storing.{HasPut}
use Rattle.vault.proofs.vault.Vault.offer_to_all.Given as goal

abbrev pub invariant-loop-at : goal.invariant-loop-at
invariant-loop-at g l =
    let means = g.B.Board.means in
    record {
      goes :
          (start : g.row.B.Denot) (first : InMemory) → HasPut means start l.fn.board first l.fn.self (stored_by l.arrival) 0 l.fn.text
          → HasPut means start l.board first l.self (stored_by l.arrival) l.at l.text;
      within : l.at ≤ length l.fn.self.directory.stores;
      blocks : l.self.blocks ≡ l.fn.self.blocks;
      held : l.self.held ≡ l.fn.self.held;
      no_fault : (means.counts l.board).flash_faults ≡ (means.counts l.fn.board).flash_faults;
    }
