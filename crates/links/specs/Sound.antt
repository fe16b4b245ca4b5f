-- The facts of refusal 35 that concern the sessions (document 01, "Refusals by number"): "a length, offset or name points at what the store
-- lacks", and no others: what calls keep besides stands in Kept.antt. Assumes nothing.
use Rattle.std.specs.Prelude.{Bool, true, false, cond, not, List, [], ◌∷◌, ℕ, ◌+◌, ◌*◌, eqb, leb, ltb, length, get_or, take, drop, Option, Some, None}
use Rattle.packet.specs.Frame.{announced_in}
use Rattle.session.specs.declared.state.Session.{Session}
use Rattle.session.specs.declared.state.Uplink.{Uplink}
use Rattle.session.specs.declared.state.Uplink.TheVariants as up
use Rattle.session.specs.declared.state.Downlink.{Downlink}
use Rattle.session.specs.declared.state.Downlink.TheVariants as down
use Rattle.session.specs.declared.state.Listed.{Listed}
use Rattle.session.specs.declared.state.Listed.TheVariants as listed
use Rattle.session.specs.State.{closed_session}
use Rattle.table.specs.declared.File.{File}
use Rattle.table.specs.Table.{file_at, find_of, uploaded}
use Rattle.directory.specs.Directory.{found_in}

abbrev pub complete_at : List File → ℕ → Bool
complete_at fs place = not (eqb (uploaded (file_at fs place)) 0)

-- an upload names a partial file, and its offset with the bytes received since is within what the file has
unfoldable pub uplink_sound : List File → Uplink → Bool
uplink_sound fs up.Idle = true
uplink_sound fs (up.Receiving place offset received) =
    cond (eqb (file_at fs place).number 0) false
    (cond (eqb (file_at fs place).time 0) (leb (offset + received) (file_at fs place).received) false)
uplink_sound fs up.Ignoring = true

-- ---- a directory (A1 of document 02); `selected` is the session's part of the selections, and `next` its place in them

-- that of one file names a complete one; those of the selection are looked at with it
unfoldable pub listed_sound : List File → Listed → Bool
listed_sound fs (listed.One place) = complete_at fs place
listed_sound fs (listed.Selected first) = true

-- the announced length of the file that is found, 0 of none
unfoldable pub size_in : List File → Option ℕ → ℕ
size_in fs None = 0
size_in fs (Some place) = (file_at fs place).size

-- it has come to one of its files, or past the last one, and its offset is within that file
unfoldable pub directory_sound : List File → List ℕ → ℕ → Listed → ℕ → ℕ → Bool
directory_sound fs selected next l done sent =
    cond (listed_sound fs l)
    (cond (leb done (length (found_in l next fs selected))) (leb sent (size_in fs (get_or (found_in l next fs selected) done None))) false)
    false

-- a download names a complete file, and an offset within it
unfoldable pub downlink_sound : List File → List ℕ → ℕ → Downlink → Bool
downlink_sound fs selected next down.Idle = true
downlink_sound fs selected next (down.Sending place offset sent) =
    cond (complete_at fs place) (leb (offset + sent) (file_at fs place).size) false
downlink_sound fs selected next (down.Ended place) = complete_at fs place
downlink_sound fs selected next (down.Aborting place) = complete_at fs place
downlink_sound fs selected next (down.Listing l long done sent) = directory_sound fs selected next l done sent

-- a selected number is that of a complete file
unfoldable pub named_at : List File → Option ℕ → Bool
named_at fs None = false
named_at fs (Some place) = complete_at fs place

abbrev pub named_sound : List File → ℕ → Bool
named_sound fs number = named_at fs (find_of fs number)

unfoldable pub names_sound : List File → List ℕ → Bool
names_sound fs [] = true
names_sound fs (number ∷ numbers) = cond (named_sound fs number) (names_sound fs numbers) false

-- at most MAXSEL files are selected, the next one is among them or past the last, and each is a complete file
unfoldable pub selection_sound : List File → ℕ → List ℕ → ℕ → ℕ → Bool
selection_sound fs most selected count next =
    cond (leb count most) (cond (leb next count) (names_sound fs (take count selected)) false) false

-- an unfinished packet has fewer bytes than its head announces
unfoldable pub packet_sound : ℕ → List ℕ → Bool
packet_sound held part = cond (ltb held 2) true (cond (leb (announced_in part) 256) (ltb held (2 + announced_in part)) false)

-- an open session, with its part of the selections and of the unfinished packets; a closed one names nothing
unfoldable pub link_sound : List File → ℕ → List ℕ → List ℕ → Session → Bool
link_sound fs most selected part s =
    cond s.linked
    (cond (uplink_sound fs s.up) (cond (downlink_sound fs selected s.next s.down)
    (cond (selection_sound fs most selected s.count s.next) (packet_sound s.held part) false) false) false)
    true

-- the session of number i, counted from 0, of so many; those beyond them are no sessions of the server and are not looked at
unfoldable pub link_in : List File → ℕ → ℕ → List ℕ → List ℕ → Session → ℕ → Bool
link_in fs sessions most selected held s i =
    cond (ltb i sessions) (link_sound fs most (take most (drop (i * most) selected)) (take 258 (drop (i * 258) held)) s) true

-- session i of the four
abbrev pub link : List Session → ℕ → Session
link links i = get_or links i closed_session

abbrev pub link_at : List File → ℕ → ℕ → List ℕ → List ℕ → List Session → ℕ → Bool
link_at fs sessions most selected held links i = link_in fs sessions most selected held (link links i) i

-- the selections and the unfinished packets of all sessions are lent, MAXSEL numbers and 258 bytes a session
unfoldable pub links_sound : List File → ℕ → ℕ → List ℕ → List ℕ → List Session → Bool
links_sound fs sessions most selected held links =
    cond (leb sessions 4) (cond (leb most 50) (cond (leb (sessions * most) (length selected)) (cond (leb (sessions * 258) (length held))
    (cond (link_at fs sessions most selected held links 0) (cond (link_at fs sessions most selected held links 1)
    (cond (link_at fs sessions most selected held links 2) (link_at fs sessions most selected held links 3)
    false) false) false) false) false) false) false
