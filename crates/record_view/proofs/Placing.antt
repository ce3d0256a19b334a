-- A record that was written at a page of a block.
use Rattle.std.proofs.Common.{◌≡◌, ℕ, ◌+◌, ◌-◌, ◌*◌, ◌^◌, ◌<◌, ◌≤◌, List, ◌++◌, length, replicate, take, drop, Some, refl, sym, ◌∙◌, ap, arith, length-append}
use Rattle.std.proofs.lemmas.List.{length-replicate}
use Rattle.std.proofs.Math.Seq.{drop-append-add, drop-append_seam, take-append_seam}
use Rattle.byteorder.specs.Endian.{big_number}
use Rattle.byteorder.specs.Numbers.{big_number-reads_back}
use Rattle.octet_fields.specs.Fields.{Writes}
use Rattle.octet_fields.proofs.Splices.{Writes-at_front, Writes-then}
use Rattle.space_packet.specs.Charge.{charge_of}
use Rattle.space_packet.specs.Packet.{IsPacket}
use Rattle.record_view.specs.Records.{record_at}
use Rattle.record_view.specs.Written.{head_octets, record_octets, record_pages}
use Rattle.record_view.proofs.Spelling.{read_spelled}

pub placed_is_read : (front rest packet : List ℕ) (number stamp page : ℕ) → number < 2 ^ 32
    → stamp < 2 ^ 48 → IsPacket packet → length front ≡ 256 * page
    → page + charge_of (length packet) ≤ 256
    → record_at (front ++ (record_octets number stamp packet ++ rest)) number page
    ≡ Some (record { number = number; stamp = stamp; packet = packet })
placed_is_read front rest packet number stamp page number_fits stamp_fits whole at_page within =
    let text : List ℕ = record_octets number stamp packet ++ rest in
    let behind : (k : ℕ) → drop (256 * page + k) (front ++ text) ≡ drop k text =
    λ k. ap (λ (n : ℕ). drop (n + k) (front ++ text)) (sym at_page)
    ∙ drop-append-add front text k in
    let here : drop (256 * page) (front ++ text) ≡ text =
    ap (λ (n : ℕ). drop n (front ++ text)) (sym at_page) ∙ drop-append_seam front text in
    read_spelled (front ++ text) number page
    (record { number = number; stamp = stamp; packet = packet })
    (record {
      same_number = refl;
      number_there =
          ap (big_number 4) (behind 6) ∙ big_number-reads_back 4 number (drop 10 text) number_fits;
      zeros = ap (big_number 4) (behind 12) ∙ refl;
      stamp =
          ap (big_number 6) here ∙ big_number-reads_back 6 stamp (drop 6 text) stamp_fits;
      said_length =
          ap (big_number 2) (behind 10)
          ∙ big_number-reads_back 2 (length packet) (drop 12 text) (omega (arith, whole.at_most));
      packet_there = ap (take (length packet)) (behind 16) ∙ take-append_seam packet rest;
      packet = whole;
      within = within;
    })

-- a head, a packet behind it and zeros behind that are a record's pages
pub written_pages : (old first second new octets : List ℕ) (number stamp pages : ℕ)
    → Writes old first 0 (head_octets number stamp (length octets)) → Writes first second 16 octets
    → Writes second new (16 + length octets) (replicate (256 * pages - (16 + length octets)) 0)
    → pages ≡ charge_of (length octets)
    → new ≡ record_pages number stamp octets ++ drop (256 * pages) old
written_pages old first second new octets number stamp pages head packet zeros pages_are =
    let rest : List ℕ = replicate (256 * pages - (16 + length octets)) 0 in
    let front : List ℕ = record_octets number stamp octets in
    let whole : Writes old new 0 (front ++ rest) =
    Writes-then (Writes-then head packet (omega arith)) zeros (omega arith) in
    let size : length (front ++ rest) ≡ 256 * pages =
    omega (
      arith,
      length-append front rest,
      length-replicate {A = ℕ} (256 * pages - (16 + length octets)) 0,
    ) in
    Writes-at_front whole ∙ ap (λ (n : ℕ). (front ++ rest) ++ drop n old) size
    ∙ ap (λ (n : ℕ). (front ++ replicate (256 * n - (16 + length octets)) 0)
    ++ drop (256 * pages) old) pages_are
