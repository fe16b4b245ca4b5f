-- A session's state (document 01, "Two states a session"): "Each session carries an uplink state and a downlink state that move
-- separately." Assumes nothing.
use Rattle.std.specs.Prelude.{true, false, ℕ}
use Rattle.session.specs.declared.state.Uplink.{Uplink}
use Rattle.session.specs.declared.state.Uplink.TheVariants as up
use Rattle.session.specs.declared.state.Downlink.{Downlink}
use Rattle.session.specs.declared.state.Downlink.TheVariants as down
use Rattle.session.specs.declared.state.Session.{Session}

-- "The unfinished packet and the selection are forgotten": a session whose link is lost or closed is this one
abbrev pub closed_session : Session
closed_session = record { linked = false; up = up.Idle; down = down.Idle; held = 0; count = 0; next = 0 }

-- a session at login
abbrev pub fresh_session : Session
fresh_session = record { linked = true; up = up.Idle; down = down.Idle; held = 0; count = 0; next = 0 }

abbrev pub with_up : Session → Uplink → Session
with_up s u = record { linked = s.linked; up = u; down = s.down; held = s.held; count = s.count; next = s.next }

abbrev pub with_down : Session → Downlink → Session
with_down s d = record { linked = s.linked; up = s.up; down = d; held = s.held; count = s.count; next = s.next }

abbrev pub with_held : Session → ℕ → Session
with_held s n = record { linked = s.linked; up = s.up; down = s.down; held = n; count = s.count; next = s.next }

abbrev pub with_selection : Session → ℕ → Session
with_selection s n = record { linked = s.linked; up = s.up; down = s.down; held = s.held; count = n; next = 0 }

abbrev pub with_next : Session → ℕ → Session
with_next s n = record { linked = s.linked; up = s.up; down = s.down; held = s.held; count = s.count; next = n }
