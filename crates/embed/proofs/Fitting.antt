-- Each case of a side fits where its two numbers do.
use mathlib.Core.Bool.{Bool}
use Prim.Native.Nat.{ℕ, ◌<◌}
use native.Mathlib.Omega.{arith}
use Rattle.session.specs.declared.state.Uplink.TheVariants as up
use Rattle.session.specs.declared.state.Downlink.TheVariants as down
use Rattle.session.specs.declared.state.Listed.{Listed}
use Rattle.embed.specs.Fit.{up_offset, up_received, down_offset, down_sent, UpFits, DownFits}

pub idle_up : UpFits up.Idle
unfolding up_offset up_received
idle_up = record { offset = omega arith; received = omega arith }

pub receiving : (place offset received : ℕ) → offset < 4294967296 → received < 4294967296 → UpFits (up.Receiving place offset received)
unfolding up_offset up_received
receiving place offset received h k = record { offset = h; received = k }

pub ignoring : UpFits up.Ignoring
unfolding up_offset up_received
ignoring = record { offset = omega arith; received = omega arith }

pub idle_down : DownFits down.Idle
unfolding down_offset down_sent
idle_down = record { offset = omega arith; sent = omega arith }

pub sending : (place offset sent : ℕ) → offset < 4294967296 → sent < 4294967296 → DownFits (down.Sending place offset sent)
unfolding down_offset down_sent
sending place offset sent h k = record { offset = h; sent = k }

pub ended : (place : ℕ) → DownFits (down.Ended place)
unfolding down_offset down_sent
ended place = record { offset = omega arith; sent = omega arith }

pub aborting : (place : ℕ) → DownFits (down.Aborting place)
unfolding down_offset down_sent
aborting place = record { offset = omega arith; sent = omega arith }

pub listing : (l : Listed) (long : Bool) (done sent : ℕ) → DownFits (down.Listing l long done sent)
unfolding down_offset down_sent
listing l long done sent = record { offset = omega arith; sent = omega arith }
