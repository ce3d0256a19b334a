-- What a change makes of a directory, from what it makes of its stores.
use Rattle.std.proofs.Common.{◌≡◌, ℕ, Bool, List, sym, ap, ◌∙◌}
use Rattle.std.specs.Prelude.{Err, IfErr, None, Ok, OnErr, OnOk, Option, Result, Some, is_ok}
use Rattle.std.specs.Option.{option_and_then, option_map}
use Rattle.std.proofs.lemmas.Bool.{false≢true, true≢false}
use Rattle.control_defs.specs.declared.patterns.Pattern.{Pattern}
use Rattle.store_directory.specs.Changes.{Forward, apply, change_patterns}
use Rattle.store_directory.specs.Directory.{Directory, Listed, with_stores}
use Rattle.store_directory.specs.declared.fault.ApplyFault.{ApplyFault}
use Rattle.store_directory.specs.declared.fault.ApplyFault.TheVariants.{NoMemory, Unfit}

-- a directory of these parts
abbrev pub directory_of : (now reports : ℕ) → List Pattern → List Listed → Directory
directory_of now reports forward stores = record { now = now; reports = reports; forward = forward; stores = stores }

-- Stores that are changed, and the directory with them.

pub with-some : (d : Directory) (found : Option (List Listed)) (stores : List Listed) → found ≡ Some stores → option_map (with_stores d) found ≡ Some (with_stores d stores)
with-some d found stores is = ap (option_map (with_stores d)) is

pub with-none : (d : Directory) (found : Option (List Listed)) → found ≡ None → option_map (with_stores d) found ≡ None
with-none d found is = ap (option_map (with_stores d)) is

-- the forward patterns

pub forward-some : (d : Directory) (add : Bool) (pattern : Pattern) (patterns : List Pattern) → change_patterns add pattern d.forward ≡ Some patterns
    → apply d (Forward add pattern) ≡ Some (directory_of d.now d.reports patterns d.stores)
unfolding apply
forward-some d add pattern patterns is = ap (option_and_then (λ (forward : List Pattern). Some (record d { forward = forward }))) is

pub forward-none : (d : Directory) (add : Bool) (pattern : Pattern) → change_patterns add pattern d.forward ≡ None → apply d (Forward add pattern) ≡ None
unfolding apply
forward-none d add pattern is = ap (option_and_then (λ (forward : List Pattern). Some (record d { forward = forward }))) is

-- An answer by another one that is an error where it is.

module _ {E : Type 0} where
  pub on-ok : (made : Result (Unit {0}) E) (answer : Result (Unit {0}) ApplyFault) (P : Type 0) → is_ok answer ≡ is_ok made → OnOk made P → OnOk answer P
  on-ok made (Err fault) P same is = tt
  on-ok (Ok u) (Ok v) P same is = is
  on-ok (Err e) (Ok v) P same is = absurd (true≢false same)

  pub on-err : (made : Result (Unit {0}) E) (answer : Result (Unit {0}) ApplyFault) (P : Type 0) → is_ok answer ≡ is_ok made → OnErr made P → OnErr answer P
  on-err made (Ok v) P same is = tt
  on-err (Err e) (Err fault) P same is = is
  on-err (Ok u) (Err fault) P same is = absurd (false≢true same)

  pub on-unfit : (made : Result (Unit {0}) E) (answer : Result (Unit {0}) ApplyFault) (P : Type 0) → is_ok answer ≡ is_ok made → OnErr made P → answer ≡ Err Unfit → P
  on-unfit (Err e) answer P same is unfit = is
  on-unfit (Ok u) answer P same is unfit = absurd (true≢false (sym same ∙ ap is_ok unfit))

pub never-memory : (answer : Result (Unit {0}) ApplyFault) (P : Type 0) → IfErr answer (λ fault. fault ≡ Unfit) → answer ≡ Err NoMemory → P
never-memory (Ok u) P unfit memory = absurd cc
never-memory (Err fault) P unfit memory = absurd cc
