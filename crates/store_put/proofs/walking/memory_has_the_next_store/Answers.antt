use Rattle.store_put.proofs.Walked.{here, in_place, some_free}
use Rattle.store_put.proofs.walking.memory_has_the_next_store.Goals as goal

pub returns : goal.returns
returns c = record {
  here = λ blocks d time at next indexes useds pool walking s is.
      (here blocks d time at next indexes useds pool walking s is, in_place blocks d time at next indexes useds pool walking s is);
  free = some_free;
}
