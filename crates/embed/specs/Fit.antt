-- A server whose numbers fit their types: what is held in 32 bits is below 4,294,967,296. Assumes nothing.
use Rattle.std.specs.Prelude.{ℕ, ◌<◌}
use Rattle.session.specs.declared.state.Session.{Session}
use Rattle.session.specs.declared.state.Uplink.{Uplink}
use Rattle.session.specs.declared.state.Uplink.TheVariants as up
use Rattle.session.specs.declared.state.Downlink.{Downlink}
use Rattle.session.specs.declared.state.Downlink.TheVariants as down
use Rattle.carry.specs.declared.turn.Last.{Last}
use Rattle.server.specs.declared.Server.{Server}
use Rattle.server.specs.State.{link_of}

-- the two 32-bit numbers of a side, 0 where its case has none
unfoldable pub up_offset : Uplink → ℕ
up_offset up.Idle = 0
up_offset (up.Receiving place offset received) = offset
up_offset up.Ignoring = 0

unfoldable pub up_received : Uplink → ℕ
up_received up.Idle = 0
up_received (up.Receiving place offset received) = received
up_received up.Ignoring = 0

unfoldable pub down_offset : Downlink → ℕ
down_offset down.Idle = 0
down_offset (down.Sending place offset sent) = offset
down_offset (down.Ended place) = 0
down_offset (down.Aborting place) = 0
down_offset (down.Listing listed long done sent) = 0

unfoldable pub down_sent : Downlink → ℕ
down_sent down.Idle = 0
down_sent (down.Sending place offset sent) = sent
down_sent (down.Ended place) = 0
down_sent (down.Aborting place) = 0
down_sent (down.Listing listed long done sent) = 0

pub record UpFits (u : Uplink) : Type 0 where
  pub offset : up_offset u < 4294967296
  pub received : up_received u < 4294967296

pub record DownFits (d : Downlink) : Type 0 where
  pub offset : down_offset d < 4294967296
  pub sent : down_sent d < 4294967296

pub record SessionFits (s : Session) : Type 0 where
  pub up : UpFits s.up
  pub down : DownFits s.down

pub record LastFits (l : Last) : Type 0 where
  pub number : l.number < 4294967296
  pub time : l.time < 4294967296

pub record ServerFits (sv : Server) : Type 0 where
  pub last : LastFits sv.last
  pub each : (i : ℕ) → i < 4 → SessionFits (link_of sv i)
