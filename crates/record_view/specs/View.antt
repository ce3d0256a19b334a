-- What a view of a record shows.
use Rattle.space_packet.specs.View.{octets_of}
use Rattle.record_view.specs.Records.{Meaning}
use Rattle.record_view.specs.declared.view.RecordView.{RecordView}

abbrev pub meaning_of : RecordView → Meaning
meaning_of view = record {
  number = view.number;
  stamp = view.stamp;
  packet = octets_of view.packet;
}
