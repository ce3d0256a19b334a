-- The fields of a line are what stands between its runs of blanks, and a line has them in one way.
use Rattle.std.proofs.Common.{◌≡◌, ◌≢◌, ◌⊎◌, inl, inr, ℕ, Bool, true, false, List, [], ◌∷◌, ◌++◌, refl, sym, ◌∙◌, ap, subst}
use Rattle.std.proofs.lemmas.List.Elements.{All-cons, All-head, All-nil, All-tail}
use Rattle.std.specs.Prelude.{◌↔◌, All, filter, if◌then◌else◌, slice_index}
use Rattle.pst_model.specs.Fields.{AreFields, IsBlank, IsSolid, fields_of, in_first, is_blank, is_field, pieces_of}

-- a piece is a field, or it is empty
fields_behind : (piece : List ℕ) (pieces : List (List ℕ)) → piece ≢ [] → filter is_field (piece ∷ pieces) ≡ piece ∷ filter is_field pieces
fields_behind [] pieces some = absurd (some refl)
fields_behind (octet ∷ piece) pieces some = refl

pieces_of-blank : (octet : ℕ) (line : List ℕ) → is_blank octet ≡ true → pieces_of (octet ∷ line) ≡ [] ∷ pieces_of line
pieces_of-blank octet line blank = ap (λ (b : Bool). if b then [] ∷ pieces_of line else in_first octet (pieces_of line)) blank

pieces_of-solid : (octet : ℕ) (line : List ℕ) → is_blank octet ≡ false → pieces_of (octet ∷ line) ≡ in_first octet (pieces_of line)
pieces_of-solid octet line solid = ap (λ (b : Bool). if b then [] ∷ pieces_of line else in_first octet (pieces_of line)) solid

-- blanks in front of a line change none of its fields

pub fields_of-blank : (octet : ℕ) (line : List ℕ) → is_blank octet ≡ true → fields_of (octet ∷ line) ≡ fields_of line
fields_of-blank octet line blank = ap (filter is_field) (pieces_of-blank octet line blank)

pub fields_of-blanks : (blanks line : List ℕ) → All IsBlank blanks → fields_of (blanks ++ line) ≡ fields_of line
fields_of-blanks [] line all = refl
fields_of-blanks (octet ∷ blanks) line all =
    fields_of-blank octet (blanks ++ line) (All-head IsBlank octet blanks all) ∙ fields_of-blanks blanks line (All-tail IsBlank octet blanks all)

pub fields_of-none : (line : List ℕ) → All IsBlank line → fields_of line ≡ []
fields_of-none [] all = refl
fields_of-none (octet ∷ line) all = fields_of-blank octet line (All-head IsBlank octet line all) ∙ fields_of-none line (All-tail IsBlank octet line all)

-- the first field of a line is the one in front of the rest

pieces_behind : (rest : List ℕ) → (rest ≡ []) ⊎ IsBlank (slice_index rest 0) → (pieces : List (List ℕ)) × (pieces_of rest ≡ [] ∷ pieces) × (filter is_field pieces ≡ fields_of rest)
pieces_behind [] behind = ([], refl, refl)
pieces_behind (octet ∷ rest) (inl none) = absurd cc
pieces_behind (octet ∷ rest) (inr blank) = (pieces_of rest, pieces_of-blank octet rest blank, sym (fields_of-blank octet rest blank))

pieces_in_front : (field rest : List ℕ) (pieces : List (List ℕ)) → All IsSolid field → pieces_of rest ≡ [] ∷ pieces → pieces_of (field ++ rest) ≡ field ∷ pieces
pieces_in_front [] rest pieces all is = is
pieces_in_front (octet ∷ field) rest pieces all is =
    pieces_of-solid octet (field ++ rest) (All-head IsSolid octet field all)
    ∙ ap (in_first octet) (pieces_in_front field rest pieces (All-tail IsSolid octet field all) is)

pub fields_of-field : (field rest : List ℕ) → field ≢ [] → All IsSolid field → (rest ≡ []) ⊎ IsBlank (slice_index rest 0) → fields_of (field ++ rest) ≡ field ∷ fields_of rest
fields_of-field field rest some all behind =
    let pieces = pieces_behind rest behind in
    ap (filter is_field) (pieces_in_front field rest pieces.0 all pieces.1) ∙ fields_behind field pieces.0 some ∙ ap (λ (fields : List (List ℕ)). field ∷ fields) pieces.2

pub fields_are : (fields : List (List ℕ)) (line : List ℕ) → AreFields fields line → fields_of line ≡ fields
fields_are [] line are = fields_of-none line are
fields_are (field ∷ fields) line are =
    let first = are.1 in
    ap fields_of first.split ∙ fields_of-blanks first.blanks (field ++ are.0) first.before ∙ fields_of-field field are.0 first.some first.solid first.behind
    ∙ ap (λ (others : List (List ℕ)). field ∷ others) (fields_are fields are.0 are.2)

-- The other way round: a line has its fields.

-- a blank more in front
more_blank : (octet : ℕ) (line : List ℕ) → is_blank octet ≡ true → (fields : List (List ℕ)) → AreFields fields line → AreFields fields (octet ∷ line)
more_blank octet line blank [] are = All-cons IsBlank octet line blank are
more_blank octet line blank (field ∷ fields) are =
    let first = are.1 in (
      are.0,
      record {
        blanks = octet ∷ first.blanks;
        split = ap (λ (l : List ℕ). octet ∷ l) first.split;
        before = All-cons IsBlank octet first.blanks blank first.before;
        some = first.some;
        solid = first.solid;
        behind = first.behind;
      },
      are.2,
    )

-- the first piece of a line, which may be empty, and the fields behind it
record FirstPiece (line : List ℕ) : Type 0 where
  piece : List ℕ
  pieces : List (List ℕ)
  rest : List ℕ
  pieces_are : pieces_of line ≡ piece ∷ pieces
  split : line ≡ piece ++ rest
  solid : All IsSolid piece
  behind : (rest ≡ []) ⊎ IsBlank (slice_index rest 0)
  others : AreFields (filter is_field pieces) rest

whole_by : (line piece rest : List ℕ) (pieces : List (List ℕ)) → line ≡ piece ++ rest → All IsSolid piece → (rest ≡ []) ⊎ IsBlank (slice_index rest 0)
    → AreFields (filter is_field pieces) rest → AreFields (filter is_field (piece ∷ pieces)) line
whole_by line [] rest pieces split solid behind others = subst (AreFields (filter is_field pieces)) (sym split) others
whole_by line (octet ∷ piece) rest pieces split solid behind others =
    (rest, record { blanks = []; split = split; before = All-nil IsBlank; some = λ is. cc; solid = solid; behind = behind }, others)

whole : (line : List ℕ) → FirstPiece line → AreFields (fields_of line) line
whole line first =
    subst (λ (pieces : List (List ℕ)). AreFields (filter is_field pieces) line) (sym first.pieces_are)
    (whole_by line first.piece first.rest first.pieces first.split first.solid first.behind first.others)

first_piece : (line : List ℕ) → FirstPiece line
first_piece [] = record { piece = []; pieces = []; rest = []; pieces_are = refl; split = refl; solid = All-nil IsSolid; behind = inl refl; others = All-nil IsBlank }
first_piece (octet ∷ line) = by (is_blank octet) refl (first_piece line)
  where
    by : (blank : Bool) → is_blank octet ≡ blank → FirstPiece line → FirstPiece (octet ∷ line)
    by true blank first = record {
      piece = [];
      pieces = pieces_of line;
      rest = octet ∷ line;
      pieces_are = pieces_of-blank octet line blank;
      split = refl;
      solid = All-nil IsSolid;
      behind = inr blank;
      others = more_blank octet line blank (fields_of line) (whole line first);
    }
    by false solid first = record {
      piece = octet ∷ first.piece;
      pieces = first.pieces;
      rest = first.rest;
      pieces_are = pieces_of-solid octet line solid ∙ ap (in_first octet) first.pieces_are;
      split = ap (λ (l : List ℕ). octet ∷ l) first.split;
      solid = All-cons IsSolid octet first.piece solid first.solid;
      behind = first.behind;
      others = first.others;
    }

pub are_fields : (line : List ℕ) → AreFields (fields_of line) line
are_fields line = whole line (first_piece line)

pub fields_of-are : (line : List ℕ) (fields : List (List ℕ)) → (fields_of line ≡ fields) ↔ AreFields fields line
fields_of-are line fields = (λ is. subst (λ (fs : List (List ℕ)). AreFields fs line) is (are_fields line), fields_are fields line)
