use Rattle.std.proofs.Common.{◌≡◌, length, drop, ◌∙◌, ap, arith, length-take}
use Rattle.std.proofs.lemmas.Slice.{drop-append-drop}
use Rattle.commit_gate.specs.Entries.{length_in}
use Rattle.commit_gate.proofs.Buffers.{front_read, length_read}
use Rattle.commit_gate.proofs.text.read_length.Goals as goal

pub returns-clause-page : goal.returns-clause-page
returns-clause-page g c told =
    let page = c.read_page.new.into in
    let long : length page ≡ 256 =
    omega (arith, c.read_page.auto.into, length-take 256 c.args.buf.now) in
    front_read page (drop 256 c.args.buf.now) long ∙ c.in_ok-read_page.ensures.read told

pub returns-clause-length : goal.returns-clause-length
returns-clause-length g c told =
    let page = c.read_page.new.into in
    let long : length page ≡ 256 =
    omega (arith, c.read_page.auto.into, length-take 256 c.args.buf.now) in
    c.read_u32.ensures ∙ length_read page (drop 256 c.args.buf.now) long
    ∙ ap length_in (c.in_ok-read_page.ensures.read told)

-- the rest of the buffer
pub returns-clause-rest : goal.returns-clause-rest
returns-clause-rest g c =
    let page = c.read_page.new.into in
    let long : length page ≡ 256 =
    omega (arith, c.read_page.auto.into, length-take 256 c.args.buf.now) in
    drop-append-drop 256 c.args.buf.now page 256 (omega arith) long

pub returns-in_err-read_page-clause-rest : goal.returns-in_err-read_page-clause-rest
returns-in_err-read_page-clause-rest g c =
    let page = c.read_page.new.into in
    let long : length page ≡ 256 =
    omega (arith, c.read_page.auto.into, length-take 256 c.args.buf.now) in
    drop-append-drop 256 c.args.buf.now page 256 (omega arith) long
