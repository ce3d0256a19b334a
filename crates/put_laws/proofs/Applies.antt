-- Puts and links of a store that stands fit its directory.
use Rattle.std.proofs.Common.{◌≡◌, ℕ, ◌+◌, ◌-◌, ◌≤◌, true, nat_le, List, [], ◌∷◌, ◌++◌, length, map, length-append, Option, Some, refl, sym, ◌∙◌, ap, subst, arith}
use Rattle.std.specs.List.{All}
use Rattle.std.proofs.lemmas.Bool.{le-leb}
use Rattle.std.proofs.lemmas.List.{length-drop}
use Rattle.std.proofs.lemmas.List.Elements.{All-append, All-cons, All-drop, All-nil}
use Rattle.block_pool.specs.Sizes.{blocks_for_size}
use Rattle.record_view.specs.declared.link.Link.{Link}
use Rattle.store_directory.specs.Changes.{Change, Links, Put, apply, change_store, listed_by, put_row, with_links}
use Rattle.store_directory.specs.Directory.{Directory, FitsLink, IsDirectory, IsListed, Listed, find_store, is_new, put_store, with_stores}
use Rattle.store_directory.specs.Options.{◌>>=◌}
use Rattle.store_directory.specs.Rows.{FitsRow, is_lawful_row}
use Rattle.store_directory.specs.declared.row.Row.{Row}
use Rattle.store_directory.proofs.Applied.{with-some}
use Rattle.store_directory.proofs.Puts.{put-is}
use Rattle.store_load.specs.Claims.{all_links, are_apart, block_of, is_data, may_share}
use Rattle.put_laws.specs.Puts.{is_unnamed}
use Rattle.put_laws.proofs.Named.{apart_behind, apart_fewer, links_around, new_behind, new_fewer, trims}
use Rattle.put_laws.proofs.Replaced.{distinct_in, few_in, kept_in, listed_in, reserved_in, shared_in, unnamed_in}
use Rattle.put_laws.proofs.Spots.{listed_here, put_here}

-- A change that fits, and the directory behind it.
pub record Fits (blocks : ℕ) (d : Directory) (change : Change) (next : Directory) : Type 0 where
  pub applied : apply d change ≡ Some next
  pub directory : IsDirectory next
  pub share : may_share 240 blocks next.stores ≡ true

module _ (blocks : ℕ) (d : Directory) (directory : IsDirectory d) (share : may_share 240 blocks d.stores ≡ true)
    (front : List Listed) (s : Listed) (back : List Listed) (parted : d.stores ≡ front ++ s ∷ back) where
  pub found : find_store s.identifier d.stores ≡ Some s
  found = ap (find_store s.identifier) parted ∙ listed_here s back front (distinct_in d directory front s back parted)

  module _ (row : Row) (same : row.identifier ≡ s.identifier) (sized : row.size ≡ s.size) (lawful : is_lawful_row row ≡ true) (fits : FitsRow row) where
    abbrev pub new_put : Listed
    new_put = listed_by row (Some s)

    listed_put : IsListed new_put
    listed_put =
        let listed = listed_in d directory front s back parted in
        let (k, cut) = trims row.first row.count s.links in
        let fewer : length new_put.links ≡ length s.links - k = ap length cut ∙ length-drop k s.links in
        record {
          lawful = lawful;
          fits = fits;
          patterns = listed.patterns;
          links = subst (λ (n : ℕ). length new_put.links ≤ blocks_for_size n) (sym sized) (omega (arith, fewer, listed.links));
          fitting = subst (All FitsLink) (sym cut) (All-drop FitsLink k s.links listed.fitting);
        }

    pub put_fits_in : Fits blocks d (Put row) (with_stores d (front ++ new_put ∷ back))
    unfolding apply
    put_fits_in =
        let listed = listed_put in
        let (k, cut) = trims row.first row.count s.links in
        let distinct = distinct_in d directory front s back parted in
        let made : listed_by row (find_store row.identifier d.stores) ≡ new_put =
        ap (listed_by row) (ap (λ (n : ℕ). find_store n d.stores) same ∙ found) in
        let put : put_store new_put d.stores ≡ front ++ new_put ∷ back =
        ap (put_store new_put) parted ∙ put_here s back new_put same front distinct in
        record {
          applied =
              with-some d (put_row row d.stores) (front ++ new_put ∷ back)
              (put-is row d.stores new_put (front ++ new_put ∷ back) made put
              (record {
                lawful = lawful;
                few = few_in d directory front s back parted new_put same sized listed;
                reserved = reserved_in d directory front s back parted new_put same sized listed;
                links = listed.links;
              }));
          directory = kept_in d directory front s back parted new_put same sized listed;
          share =
              shared_in d directory front s back parted new_put same sized listed blocks share
              (λ apart. ap (λ (l : List Link). are_apart blocks (all_links front ++ (l ++ all_links back))) cut
              ∙ apart_fewer blocks (all_links front) k s.links (all_links back) apart);
        }

    -- and a block that no link named is named by none then
    pub put_names_none : (block : ℕ) → is_unnamed block d ≡ true → is_unnamed block (with_stores d (front ++ new_put ∷ back)) ≡ true
    put_names_none block unnamed =
        let (k, cut) = trims row.first row.count s.links in
        unnamed_in d directory front s back parted new_put same sized listed_put block unnamed
        (λ new. subst (λ (l : List Link). is_new block (map block_of (all_links front ++ (l ++ all_links back))) ≡ true) (sym cut)
        (new_fewer block (all_links front) k s.links (all_links back) new))

  module _ (link : Link) (own : is_data blocks link ≡ true) (unnamed : is_unnamed link.block d ≡ true) (fits : FitsLink link)
      (few : length s.links + 1 ≤ blocks_for_size s.size) where
    abbrev pub new_linked : Listed
    new_linked = record s { links = s.links ++ link ∷ [] }

    longer : length new_linked.links ≤ blocks_for_size s.size
    longer = omega (arith, length-append s.links (link ∷ []), few)

    listed_linked : IsListed new_linked
    listed_linked =
        let listed = listed_in d directory front s back parted in
        record {
          lawful = listed.lawful;
          fits = listed.fits;
          patterns = listed.patterns;
          links = longer;
          fitting = All-append FitsLink s.links (link ∷ []) listed.fitting (All-cons FitsLink link [] fits (All-nil FitsLink));
        }

    pub links_fit_in : Fits blocks d (Links s.identifier (link ∷ [])) (with_stores d (front ++ new_linked ∷ back))
    unfolding apply
    links_fit_in =
        let listed = listed_linked in
        let distinct = distinct_in d directory front s back parted in
        let room : nat_le (length (s.links ++ link ∷ [])) (blocks_for_size s.size) ≡ true = le-leb (length new_linked.links) (blocks_for_size s.size) longer in
        let changed : with_links (link ∷ []) s ≡ Some new_linked = rw room refl in
        let put : put_store new_linked d.stores ≡ front ++ new_linked ∷ back =
        ap (put_store new_linked) parted ∙ put_here s back new_linked refl front distinct in
        record {
          applied =
              with-some d (change_store s.identifier (with_links (link ∷ [])) d.stores) (front ++ new_linked ∷ back)
              (ap (λ (o : Option Listed). o >>= λ old. with_links (link ∷ []) old >>= λ new. Some (put_store new d.stores)) found
              ∙ ap (λ (o : Option Listed). o >>= λ new. Some (put_store new d.stores)) changed
              ∙ ap Some put);
          directory = kept_in d directory front s back parted new_linked refl refl listed;
          share =
              shared_in d directory front s back parted new_linked refl refl listed blocks share
              (λ apart. apart_behind blocks (all_links front) s.links link (all_links back) own
              (ap (λ (l : List Link). is_new link.block (map block_of l)) (sym (ap all_links parted ∙ links_around front s back)) ∙ unnamed) apart);
        }

    pub links_name_one : (block : ℕ) → is_unnamed block d ≡ true → is_new block (link.block ∷ []) ≡ true
        → is_unnamed block (with_stores d (front ++ new_linked ∷ back)) ≡ true
    links_name_one block unnamed_before other =
        unnamed_in d directory front s back parted new_linked refl refl listed_linked block unnamed_before
        (λ new. new_behind block (all_links front) s.links link (all_links back) new other)
