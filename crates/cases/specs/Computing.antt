-- Whoever unfolds `computing` unfolds all that the cases compute with. Assumes nothing.
use Rattle.std.specs.Prelude.{ℕ}
use Rattle.numbers.specs.Numbers as byte-numbers
use Rattle.numbers.specs.Hex as hex
use Rattle.packet.specs.Packet as packet-packet
use Rattle.text.specs.Match as text-match
use Rattle.header.specs.Items as header-items
use Rattle.header.specs.Header as header-header
use Rattle.header.specs.Fields as header-fields
use Rattle.header.specs.Entries as header-entries
use Rattle.equation.specs.Relation as equation-relation
use Rattle.equation.specs.Symbols as equation-symbols
use Rattle.equation.specs.Tree as equation-tree
use Rattle.equation.specs.Answer as equation-answer
use Rattle.equation.specs.Holds as equation-holds
use Rattle.session.specs.Reply as session-reply
use Rattle.model.specs.Files as files
use Rattle.model.specs.Uplink as uplink
use Rattle.model.specs.Downlink as downlink
use Rattle.model.specs.Step as machine
use Rattle.cases.specs.Pass as pass
use Rattle.cases.specs.Packets as packets

unfoldable pub computing : ℕ
unfolding
    pass.said pass.heard pass.left packets.file_with packets.complete_as packets.landrover_as packets.landrover_short
    files.find files.changed files.without files.reserved files.uploading files.matching files.placed files.by_time
    uplink.upload_new uplink.upload_continued uplink.on_upload_cmd uplink.data_to uplink.on_data uplink.data_end_to uplink.on_data_end
    downlink.destinations_in downlink.download_of downlink.download_numbered downlink.on_download_cmd downlink.data_due downlink.listing_due downlink.on_request
    downlink.fewer_destinations downlink.on_dl_ack_cmd downlink.on_dl_nak_cmd downlink.directory_of_one downlink.directory_numbered downlink.on_dir_cmd
    downlink.on_select_cmd machine.by_type machine.ends_in machine.on_event machine.refusal machine.unless machine.step byte-numbers.number hex.hex_digit packet-packet.packet_of session-reply.tell
    header-items.head_of header-items.after header-items.walk header-items.marked header-items.fields_of header-header.listed
    header-header.every header-header.count_if header-header.bytes_of header-header.length_in header-header.length_fits header-header.ordered
    header-header.proper header-header.complete header-header.sum_of header-header.check_items header-header.check_values header-header.verdict
    header-header.place_from header-fields.with_fields header-fields.with_sum header-fields.fields_set
    header-entries.items_bytes header-entries.mandatory header-entries.entry_of header-entries.running_on
    equation-symbols.stars_in equation-symbols.good_text equation-symbols.good_number equation-symbols.good
    equation-symbols.connective_of equation-symbols.relation_at equation-symbols.token_of equation-symbols.follow equation-symbols.symbols_past
    equation-tree.pushed equation-tree.joined equation-tree.result equation-tree.bind equation-tree.run equation-tree.parse equation-answer.refusal
    equation-answer.validity_of equation-relation.width equation-answer.said equation-answer.answer
    equation-answer.is_yes equation-relation.compare equation-relation.number_meets equation-relation.text_meets equation-relation.meets equation-holds.holds
    equation-holds.bytes_of equation-tree.truth text-match.lower text-match.fits text-match.any_tail text-match.one text-match.matches
computing = 0
