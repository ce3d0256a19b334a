-- The model of an erase-block flash: its steps, and the images that a stop may leave.
--
-- A page has 256 octets and a block 256 pages. Page p of block b has the number 256 * b + p, and a content
-- says what each page holds. What it says of numbers beyond the device is of no account.
use Rattle.std.specs.Prelude.{◌≡◌, ℕ, ◌+◌, ◌*◌, ◌<◌, ◌&&◌, Bool, true, false, List, All, length, replicate, if◌then◌else◌, ◌==◌, nat_le, nat_lt}

pub record Flash : Type 0 where
  pub content : ℕ → List ℕ
  -- an erased page holds 255 in all its octets
  pub erased : ℕ → Bool
  -- a loose page was programmed or erased, and no barrier has made it firm yet
  pub loose : ℕ → Bool

-- what an erased page holds
unfoldable pub blank : List ℕ
blank = replicate 256 255

-- 256 octets
pub record IsPage (page : List ℕ) : Type 0 where
  pub size : length page ≡ 256
  pub octets : All (λ octet. octet < 256) page

-- each page of a device of so many blocks has 256 octets
abbrev pub IsContent : (blocks : ℕ) → (ℕ → List ℕ) → Type 0
IsContent blocks content = (p : ℕ) → p < 256 * blocks → IsPage (content p)

-- n pages from this one on, as a test
abbrev pub pages_from : ℕ → ℕ → ℕ → Bool
pages_from first n p = nat_le first p && nat_lt p (first + n)

abbrev pub only_page : ℕ → ℕ → Bool
only_page page p = p == page

abbrev pub pages_of_block : ℕ → ℕ → Bool
pages_of_block block = pages_from (256 * block) 256

-- a page that may be programmed
abbrev pub IsClean : Flash → ℕ → Type 0
IsClean flash p = (flash.erased p ≡ true) × (flash.loose p ≡ false)

-- these pages hold this, and are loose and not erased
abbrev pub written : (ℕ → Bool) → (ℕ → List ℕ) → Flash → Flash
written these pages flash = record {
  content = λ p. if these p then pages p else flash.content p;
  erased = λ p. if these p then false else flash.erased p;
  loose = λ p. if these p then true else flash.loose p;
}

-- these pages are blank, and loose and erased
abbrev pub wiped : (ℕ → Bool) → Flash → Flash
wiped these flash = record {
  content = λ p. if these p then blank else flash.content p;
  erased = λ p. if these p then true else flash.erased p;
  loose = λ p. if these p then true else flash.loose p;
}

-- nothing is loose
abbrev pub firm : Flash → Flash
firm flash = record { content = flash.content; erased = flash.erased; loose = λ p. false }

-- as the flash is while these pages are programmed or erased
abbrev pub loosened : (ℕ → Bool) → Flash → Flash
loosened these flash = record { content = flash.content; erased = flash.erased; loose = λ p. if these p then true else flash.loose p }

-- A stop leaves each page that is not loose as it is. A loose one may hold any 256 octets.
pub record IsImage (blocks : ℕ) (flash : Flash) (image : ℕ → List ℕ) : Type 0 where
  pub pages : IsContent blocks image
  pub firm_pages : (p : ℕ) → p < 256 * blocks → flash.loose p ≡ false → image p ≡ flash.content p

-- What a program or an erase of these pages that failed may leave: nothing changed, or the pages are loose
-- and not erased, with any octets.
pub data Fails (these : ℕ → Bool) (old new : Flash) : Type 0 where
  Unchanged : new ≡ old → Fails these old new
  Torn : (pages : ℕ → List ℕ) → new ≡ written these pages old → Fails these old new
