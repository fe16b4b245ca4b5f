-- Whoever unfolds `computing` unfolds all that the example computes with. Assumes nothing.
use Rattle.std.specs.Prelude.{ℕ}
use Rattle.std.specs.Int.Count as bits
use Rattle.numbers.specs.Numbers as numbers-numbers
use Rattle.numbers.specs.Hex as numbers-hex
use Rattle.packet.specs.Feed as packet-feed
use Rattle.packet.specs.Frame as packet-frame
use Rattle.packet.specs.Machine as packet-machine
use Rattle.packet.specs.Names as packet-names
use Rattle.packet.specs.Packet as packet-packet
use Rattle.session.specs.Expected as session-expected
use Rattle.session.specs.Reply as session-reply
use Rattle.table.specs.Order as table-order
use Rattle.table.specs.Table as table-table
use Rattle.blocks.specs.Answers as blocks-answers
use Rattle.blocks.specs.FreeMap as blocks-freemap
use Rattle.blocks.specs.Owners as blocks-owners
use Rattle.blocks.specs.Contents as blocks-contents
use Rattle.files.specs.Completion as files-completion
use Rattle.files.specs.Uploads as files-uploads
use Rattle.decide.specs.Decide as decide-decide
use Rattle.decide.specs.Downlink as decide-downlink
use Rattle.decide.specs.Uplink as decide-uplink
use Rattle.carry.specs.Carry as carry-carry
use Rattle.carry.specs.Download as carry-download
use Rattle.carry.specs.Upload as carry-upload
use Rattle.sending.specs.Sending as sending-sending
use Rattle.server.specs.Calls as server-calls
use Rattle.server.specs.Check as server-check
use Rattle.server.specs.Making as server-making
use Rattle.server.specs.Turns as server-turns
use Rattle.history.specs.Calls as history-calls
use Rattle.lines.specs.Commands as lines-commands
use Rattle.lines.specs.Lines as lines-lines
use Rattle.lines.specs.Numerals as lines-numerals
use Rattle.lines.specs.Text as lines-text
use Rattle.input.specs.Input as input-input
use Rattle.input.specs.Parts as input-parts
use Rattle.script.specs.Calling as script-calling
use Rattle.script.specs.Day as script-day
use Rattle.script.specs.Doing as script-doing
use Rattle.script.specs.Line as script-line
use Rattle.script.specs.Printing as script-printing
use Rattle.script.specs.Sheet as script-sheet

unfoldable pub computing : ℕ
unfolding
    bits.ones_in bits.ones bits.count_trailing_zeros packet-machine.call packet-machine.called numbers-numbers.number numbers-numbers.number_at numbers-numbers.fits_at numbers-numbers.stored_at packet-feed.mark_of packet-feed.wanted_of
    packet-feed.after_byte packet-feed.feed_of packet-frame.judged packet-frame.byte packet-frame.without_packet packet-frame.answer_by
    packet-frame.answer_of packet-frame.receive_of packet-machine.events_of packet-names.bytes_of packet-names.names packet-names.name_of
    packet-names.named packet-packet.packet_of packet-packet.write_answer packet-packet.left_in packet-packet.read_answer session-expected.expected_up
    session-expected.expected_down session-expected.expected session-reply.tell session-reply.answered table-order.least_above table-order.next_above
    table-order.places_above table-table.files table-table.put_table table-table.count_of table-table.first_from blocks-answers.make_owner
    blocks-answers.make_map blocks-answers.reserve_map blocks-answers.reserve_owner blocks-answers.release_map blocks-answers.release_owner
    blocks-answers.write_disk blocks-answers.read_out blocks-freemap.free_count blocks-freemap.lowest blocks-freemap.reserved_map blocks-owners.blocks
    blocks-owners.held_count blocks-owners.counts_from blocks-owners.next_of blocks-owners.nth blocks-owners.reserved_owner blocks-owners.released_owner
    blocks-owners.released_map blocks-owners.word_of blocks-owners.map_of blocks-contents.held blocks-contents.stored files-completion.check_of
    files-completion.complete_number files-completion.complete_of files-completion.destinations_at files-uploads.begin_at files-uploads.begin_in
    files-uploads.begin_with files-uploads.place_number files-uploads.room_number files-uploads.append_number
    files-uploads.append_of files-uploads.discard_number files-uploads.discard_of decide-decide.on_packet decide-decide.on_frame decide-decide.decide_of
    decide-downlink.on_found decide-downlink.on_numbered decide-downlink.on_download decide-downlink.on_ack decide-downlink.on_nak
    decide-downlink.on_downlink decide-uplink.on_continued decide-uplink.on_upload decide-uplink.on_data decide-uplink.on_end decide-uplink.on_uplink
    carry-carry.on_frees carry-carry.on_writes carry-carry.on_moves carry-carry.on_chooses carry-carry.carry_out carry-download.close_turn
    carry-download.selected_as carry-download.select_turn carry-download.begin_turn carry-download.confirm_turn carry-upload.begun_turn
    carry-upload.begun_as carry-upload.begin_with carry-upload.stored_as carry-upload.appended_as carry-upload.store_turn carry-upload.discard_turn
    carry-upload.timed carry-upload.judged_at carry-upload.accepted_as carry-upload.accept_turn carry-upload.with_disk carry-upload.with_blocks
    carry-upload.finish_as sending-sending.least_of sending-sending.data_of sending-sending.sending_of sending-sending.due_of sending-sending.due_in
    server-calls.answered_by server-calls.heard_by server-calls.step_of server-calls.on_check server-calls.receive_by server-calls.receive_of
    server-calls.on_login server-calls.login_by server-calls.login_of server-calls.on_lose server-calls.lose_by server-calls.lose_of server-calls.due_as
    server-calls.on_request server-calls.request_by server-calls.request_of server-check.sizes_fit server-check.room_fits server-check.sound_parts
    server-check.in_state server-check.session_check server-check.check_by server-making.empty_of server-making.make_of server-turns.hear_of
    server-turns.size_in server-turns.put_back server-turns.act_of history-calls.made history-calls.after lines-commands.onto lines-commands.fields_of
    lines-commands.same lines-commands.ends_at lines-commands.number_in lines-commands.command_of_two lines-commands.command_of_three
    lines-commands.command_of_fields lines-commands.command_of lines-commands.rx_bytes lines-commands.read_by lines-commands.read_of lines-lines.sent_line
    lines-lines.packet_line lines-lines.closed_line lines-lines.refused_line lines-lines.error_line lines-lines.blocks_line lines-lines.printed_in
    lines-numerals.digit lines-numerals.digits lines-numerals.value_from lines-numerals.decimal_by lines-numerals.decimal_at lines-numerals.hex_value
    lines-numerals.is_hex lines-numerals.bytes_in lines-numerals.hex_in lines-text.digits_within lines-text.decimal_of numbers-hex.hex_digit lines-text.hex_of
    input-input.line_length input-input.found_of input-input.find_of input-input.moved_of input-input.shift_of input-parts.rest_of script-calling.hear_of
    script-calling.call_of script-calling.heard_of script-calling.still_of script-day.begin_of script-day.prints_of script-day.answered_of script-day.turn_of
    script-day.step_of script-day.step_behind script-doing.rests_of script-doing.session_of script-doing.goes_on script-doing.heard_on script-doing.pumped_on
    script-doing.after_of script-line.line_of script-printing.line_for script-printing.show_of script-sheet.first_line script-sheet.by_command
    input-input.by_first script-sheet.lines_from script-sheet.sheet_of
computing = 0
