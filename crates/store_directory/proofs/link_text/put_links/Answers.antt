use Rattle.std.proofs.Common.{refl}
use Rattle.octet_fields.proofs.Rows.{Listed-more}
use Rattle.store_directory.specs.Entries.{link_octets}
use Rattle.store_directory.proofs.LinkTexts.{length-link_octets}
use Rattle.store_directory.proofs.link_text.put_links.Goals as goal

pub loop-link-preserved : goal.loop-link-preserved
loop-link-preserved c =
    Listed-more link_octets 6 length-link_octets c.args.links.now _ c.loop-link-test.true c.loop-link.invariant c.put_link.ensures refl
