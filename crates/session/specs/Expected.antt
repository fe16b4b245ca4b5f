-- Which packet is expected in which state (document 01, "Packets", "Two states a session"; document 001, appendix B). Assumes nothing.
use Rattle.std.specs.Prelude.{Bool, true, false, cond, ℕ, eqb, leb, ltb}
use Rattle.session.specs.declared.state.Uplink.{Uplink}
use Rattle.session.specs.declared.state.Uplink.TheVariants as up
use Rattle.session.specs.declared.state.Downlink.{Downlink}
use Rattle.session.specs.declared.state.Downlink.TheVariants as down

abbrev pub takes_data : Uplink → Bool
takes_data up.Idle = false
takes_data (up.Receiving place offset received) = true
takes_data up.Ignoring = true

abbrev pub takes_upload : Uplink → Bool
takes_upload up.Idle = true
takes_upload (up.Receiving place offset received) = false
takes_upload up.Ignoring = false

-- SELECT_CMD, DOWNLOAD_CMD, DIR_SHORT_CMD and DIR_LONG_CMD
abbrev pub takes_command : Downlink → Bool
takes_command down.Idle = true
takes_command (down.Sending place offset sent) = false
takes_command (down.Ended place) = false
takes_command (down.Aborting place) = false
takes_command (down.Listing listed long done sent) = false

-- "Before DATA_END is sent DL_ACK_CMD is unexpected"
abbrev pub takes_ack : Downlink → Bool
takes_ack down.Idle = false
takes_ack (down.Sending place offset sent) = false
takes_ack (down.Ended place) = true
takes_ack (down.Aborting place) = false
takes_ack (down.Listing listed long done sent) = false

-- "any downlink command between these two being unexpected"; with the downlink idle it is expected and does nothing, and it breaks a directory off
-- (001, appendix B)
abbrev pub takes_nak : Downlink → Bool
takes_nak down.Idle = true
takes_nak (down.Sending place offset sent) = true
takes_nak (down.Ended place) = true
takes_nak (down.Aborting place) = false
takes_nak (down.Listing listed long done sent) = true

-- THE TABLE. "A type 18 to 31, a server's own type, a packet not expected in the session's state, or DATA_END or DL_NAK_CMD with
-- information closes it at the packet's end. The server closes a link in no other case (H)."
--   type               expected while                        of size
--   0 DATA             the uplink is receiving or ignoring   any
--   1 DATA_END         the uplink is receiving or ignoring   0
--   3 UPLOAD_CMD       the uplink is idle                    any
--   8 DOWNLOAD_CMD     the downlink is idle                  any
--   12 DL_ACK_CMD      the downlink has ended                any
--   13 DL_NAK_CMD      the downlink is not aborting          0
--   14, 15 DIR_.._CMD  the downlink is idle                  any
--   16 SELECT_CMD      the downlink is idle                  any
unfoldable pub expected_up : Uplink → ℕ → ℕ → Bool
expected_up u kind size =
    cond (eqb kind 0) (takes_data u)
    (cond (eqb kind 1) (cond (eqb size 0) (takes_data u) false)
    (cond (eqb kind 3) (takes_upload u)
    false))

unfoldable pub expected_down : Downlink → ℕ → ℕ → Bool
expected_down d kind size =
    cond (eqb kind 8) (takes_command d)
    (cond (eqb kind 12) (takes_ack d)
    (cond (eqb kind 13) (cond (eqb size 0) (takes_nak d) false)
    (cond (leb 14 kind) (cond (leb kind 16) (takes_command d) false) false)))

-- types below 8 are the uplink's
unfoldable pub expected : Uplink → Downlink → ℕ → ℕ → Bool
expected u d kind size = cond (ltb kind 8) (expected_up u kind size) (expected_down d kind size)
