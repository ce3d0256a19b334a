-- What was taken of a text of which some commands were read.
use Rattle.std.proofs.Common.{◌≡◌, ◌-◌, ℕ, Bool, true, false, List, [], ◌∷◌, ◌++◌, length, take, refl, sym, ◌∙◌, ap, arith}
use Rattle.std.proofs.lemmas.Bool.{false≢true}
use Rattle.std.specs.Prelude.{IsTrue}
use Rattle.station.specs.Reading.{read_of, taken_of, text_limit}
use Rattle.pst_model.specs.Command.{Command}
use Rattle.pst_model.specs.Text.{commands_of, commands_read}
use Rattle.session_text.specs.Progress.{HasRead}
use Rattle.session_text.specs.Reader.{Reader}
use Rattle.session_text.proofs.Progressing.{has_read_none, has_read_taken, has_read_whole, taken_is}

-- The commands read begin with them.
pub record Taken (text left : List ℕ) (done : List Command) : Type 0 where
  pub split : text ≡ taken_of text left ++ left
  pub others : List Command
  pub begins : done ++ others ≡ read_of text left

pub taken : (text : List ℕ) (done : List Command) (reader : Reader) (left : List ℕ) → reader.limit ≡ text_limit → HasRead text done reader left → Taken text left done
taken text done reader left limit read = by left read
  where
    same : (left : List ℕ) (read : HasRead text done reader left) → taken_of text left ≡ read.behind ++ reader.pending
    same left read = taken_is text (read.behind ++ reader.pending) left (has_read_taken text done reader left read).0

    split : (left : List ℕ) (read : HasRead text done reader left) → text ≡ taken_of text left ++ left
    split left read = (has_read_taken text done reader left read).0 ∙ ap (λ (octets : List ℕ). octets ++ left) (sym (same left read))

    -- something is left, so the end of the text was not seen
    before : (octet : ℕ) (left : List ℕ) → HasRead text done reader (octet ∷ left) → (closed : Bool) → reader.closed ≡ closed → reader.closed ≡ false
    before octet left read false is = is
    before octet left read true is = absurd (none reader.pending (read.at_end is))
      where
        none : (xs : List ℕ) → xs ++ octet ∷ left ≡ [] → ⊥
        none [] e = cc
        none (x ∷ xs) e = cc

    by : (left : List ℕ) → HasRead text done reader left → Taken text left done
    by [] read =
        let found = (has_read_taken text done reader [] read).1 in
        record { split = split [] read; others = found.0; begins = found.1 ∙ ap (λ (limit : ℕ). commands_of limit text) limit }
    by (octet ∷ left) read =
        let found = has_read_whole text done reader (octet ∷ left) read (before octet left read reader.closed refl) in
        record {
          split = split (octet ∷ left) read;
          others = found.0;
          begins = found.1 ∙ ap (λ (limit : ℕ). commands_read limit (read.behind ++ reader.pending)) limit ∙ ap (λ (octets : List ℕ). commands_read text_limit octets) (sym (same (octet ∷ left) read));
        }

start : Reader
start = record { limit = text_limit; place = 0; number = 0; pending = []; closed = false; live = true }

-- nothing was taken
pub taken_none : (text : List ℕ) → Taken text text []
unfolding start
taken_none text = taken text [] start text refl (has_read_none text_limit text)

-- A list with a property, if something is told.
pub record IfTold (told : Bool) (P : List Command → Type 0) : Type 0 where
  pub list : List Command
  pub is : IsTrue told → P list

pub if_told : (told : Bool) (P : List Command → Type 0) → (IsTrue told → (list : List Command) × P list) → IfTold told P
if_told true P found = record { list = (found refl).0; is = λ told. (found refl).1 }
if_told false P found = record { list = []; is = λ told. absurd (false≢true told) }

-- no command was read where nothing was taken
pub none_read : (text : List ℕ) → read_of text text ≡ []
none_read [] = refl
none_read (octet ∷ left) =
    let none : length (octet ∷ left) - length (octet ∷ left) ≡ 0 = omega arith in
    ap (λ (n : ℕ). commands_read text_limit (take n (octet ∷ left))) none
