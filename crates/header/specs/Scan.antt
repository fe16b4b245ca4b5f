-- The byte machine that reads a header, a byte at a time, wherever the bytes come from. Assumes nothing.
use Rattle.std.specs.Prelude.{ℕ, ◌+◌, ◌-◌, ◌*◌, ◌/◌, ◌%◌, Result, Ok, Bool, true, false, cond, List, [], ◌∷◌, ◌==◌, nat_le, nat_lt}
use Rattle.header.specs.Header.{length_fits, nowhere, refused_with}
use Rattle.header.specs.declared.scan.Phase.{Phase}
use Rattle.header.specs.declared.scan.Phase.TheVariants.{First, Second, Low, High, Length, Inside, Body, Broken, Unmarked}
use Rattle.header.specs.declared.scan.Passed.{Passed}
use Rattle.header.specs.declared.scan.Place.{Place}
use Rattle.header.specs.declared.scan.Seen.{Seen}
use Rattle.header.specs.declared.scan.Scan.{Scan}
use Rattle.header.specs.declared.scan.Header.{Header}

-- ---- where a byte stands

-- after an item's length
abbrev pub after_length : ℕ → ℕ → Phase
after_length id n = cond (id == 0) (cond (n == 0) Body Broken) (cond (n == 0) Low (Inside id n))

abbrev pub next_phase : Phase → ℕ → Phase
next_phase First b = cond (b == 170) Second Unmarked
next_phase Second b = cond (b == 85) Low Unmarked
next_phase Low b = High b
next_phase (High a) b = Length (a + 256 * b)
next_phase (Length id) b = after_length id b
next_phase (Inside id left) b = cond (nat_le left 1) Low (Inside id (left - 1))
next_phase Body b = Body
next_phase Broken b = Broken
next_phase Unmarked b = Unmarked

-- the next byte is the header's
abbrev pub in_header : Phase → Bool
in_header First = true
in_header Second = true
in_header Low = true
in_header (High a) = true
in_header (Length id) = true
in_header (Inside id left) = true
in_header Body = false
in_header Broken = false
in_header Unmarked = false

-- the next byte is the body's
abbrev pub in_body : Phase → Bool
in_body First = false
in_body Second = false
in_body Low = false
in_body (High a) = false
in_body (Length id) = false
in_body (Inside id left) = false
in_body Body = true
in_body Broken = false
in_body Unmarked = false

-- the mark is not complete
abbrev pub unmarked : Phase → Bool
unmarked First = true
unmarked Second = true
unmarked Low = false
unmarked (High a) = false
unmarked (Length id) = false
unmarked (Inside id left) = false
unmarked Body = false
unmarked Broken = false
unmarked Unmarked = true

-- ---- the bytes passed

-- counts wrap as their type does, which no slice is long enough to bring about
abbrev pub one_more : ℕ → ℕ
one_more n = (n + 1) % 18446744073709551616

abbrev pub bumped : ℕ → Bool → ℕ
bumped n more = cond more (one_more n) n

abbrev pub passed_one : Passed → ℕ → Passed
passed_one p b = record { pos = one_more p.pos; recent = p.recent / 256 + b * 16777216; sum = (p.sum + b) % 65536 }

abbrev pub passed_in : Phase → Passed → ℕ → Passed
passed_in phase p b = cond (in_header phase) (passed_one p b) p

abbrev pub body_in : Phase → ℕ → ℕ → ℕ
body_in phase sum b = cond (in_body phase) ((sum + b) % 65536) sum

-- ---- what the items say

-- the lengths fit, and 01 to 0b rise ahead of all others, the last one being given
abbrev pub ok_after : Bool → ℕ → ℕ → ℕ → Bool
ok_after ok last id n = cond ok (cond (length_fits id n) (cond (nat_le id 11) (nat_lt last id) true) false) false

abbrev pub last_after : ℕ → ℕ
last_after id = cond (nat_le id 11) id 11

abbrev pub place_after : Place → ℕ → ℕ → ℕ → ℕ → Place
place_after p want id n at = cond p.found p (cond (id == want) (record { found = true; at = at; size = n }) p)

-- an item's id and length are known; its data begins at byte `at`
unfoldable pub with_head : Seen → ℕ → ℕ → ℕ → ℕ → Seen
with_head s want id n at =
    record {
      ok = ok_after s.ok s.last id n;
      last = last_after id;
      low = bumped s.low (nat_le id 11);
      uploads = bumped s.uploads (id == 18);
      destinations = bumped s.destinations (id == 20);
      size = s.size;
      bodysum = s.bodysum;
      headsum = s.headsum;
      offset = s.offset;
      place = place_after s.place want id n at;
    }

-- the last byte of an item's data has come; `recent` is its last four bytes as a number
unfoldable pub with_data : Seen → ℕ → ℕ → Seen
with_data s id recent =
    record {
      ok = s.ok;
      last = s.last;
      low = s.low;
      uploads = s.uploads;
      destinations = s.destinations;
      size = cond (id == 4) recent s.size;
      bodysum = cond (id == 9) recent s.bodysum;
      headsum = cond (id == 10) recent s.headsum;
      offset = cond (id == 11) recent s.offset;
      place = s.place;
    }

abbrev pub seen_in : Phase → Seen → ℕ → Passed → ℕ → Seen
seen_in First s want p b = s
seen_in Second s want p b = s
seen_in Low s want p b = s
seen_in (High a) s want p b = s
seen_in (Length id) s want p b = cond (id == 0) s (with_head s want id b p.pos)
seen_in (Inside id left) s want p b = cond (nat_le left 1) (with_data s id p.recent) s
seen_in Body s want p b = s
seen_in Broken s want p b = s
seen_in Unmarked s want p b = s

-- ---- the machine

abbrev pub start_of : ℕ → Scan
start_of want =
    record {
      want = want;
      phase = First;
      passed = record { pos = 0; recent = 0; sum = 0 };
      body = 0;
      seen = record {
        ok = true;
        last = 0;
        low = 0;
        uploads = 0;
        destinations = 0;
        size = 0;
        bodysum = 0;
        headsum = 0;
        offset = 0;
        place = nowhere;
      };
    }

unfoldable pub step_of : Scan → ℕ → Scan
step_of s b =
    record {
      want = s.want;
      phase = next_phase s.phase b;
      passed = passed_in s.phase s.passed b;
      body = body_in s.phase s.body b;
      seen = seen_in s.phase s.seen s.want (passed_in s.phase s.passed b) b;
    }

-- the scan after further bytes
unfoldable pub scan_from : Scan → List ℕ → Scan
scan_from s [] = s
scan_from s (b ∷ bs) = scan_from (step_of s b) bs

-- the scan after further bytes, those past the header's end left aside
unfoldable pub header_from : Scan → List ℕ → Scan
header_from s [] = s
header_from s (b ∷ bs) = cond (in_header s.phase) (header_from (step_of s b) bs) s

-- ---- its answers

-- the refusal by what the items said
abbrev pub seen_refusal : Seen → ℕ
seen_refusal s = cond s.ok (cond (nat_le s.uploads 1) (cond (s.low == 11) (cond (s.uploads == 1) 0 6) 6) 14) 14

-- the refusal of the items, as `check_items` of specs/Header.antt
unfoldable pub item_refusal : Scan → ℕ
item_refusal s = cond (unmarked s.phase) 7 (cond (in_body s.phase) (seen_refusal s.seen) 14)

-- a 16-bit field stands in the two high bytes of `recent`; the header's sum is less its own two bytes
abbrev pub scan_sum : Passed → Seen → ℕ
scan_sum p s = (p.sum + 131072 - s.headsum / 65536 % 256 - s.headsum / 16777216) % 65536

-- the refusal of the values, as `check_values`
abbrev pub value_refusal : Passed → Seen → ℕ → ℕ → ℕ
value_refusal p s body announced =
    cond (s.offset / 65536 == p.pos)
    (cond (s.size == announced)
    (cond (scan_sum p s == s.headsum / 65536) (cond (body == s.bodysum / 65536) 0 16) 15)
    14)
    14

-- the number for the scan of `got` bytes, as `verdict`
unfoldable pub scan_verdict : Scan → ℕ → ℕ → ℕ
scan_verdict s got announced =
    cond (nat_lt got announced) 16
    (cond (item_refusal s == 0) (value_refusal s.passed s.seen s.body announced) (item_refusal s))

-- what the header says, as `header_of`
unfoldable pub scan_header : Scan → Result Header ℕ
scan_header s =
    cond (item_refusal s == 0)
    (Ok (record {
      size = s.passed.pos;
      sum = scan_sum s.passed s.seen;
      destinations = s.seen.destinations;
      place = s.seen.place;
    }))
    (refused_with (item_refusal s))
