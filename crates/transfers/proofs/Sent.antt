-- Whoever is sent bytes, of a file or of a directory, gets them: by induction over the calls, each of which sends the session the next DATA, DATA_END or
-- neither. Meanwhile its selection and its place in it stay. Assumes nothing.
use mathlib.Core.Path.{◌≡◌, refl, sym, ap, ◌∙◌, subst}
use mathlib.Core.Bool.{Bool, true, false, cond}
use mathlib.Core.List.{List, [], ◌∷◌, ◌++◌, append_assoc}
use Prim.Native.Nat.{ℕ, zero, suc, min, ◌+◌, ◌-◌, ◌/◌, ◌%◌, ◌*◌, ◌≤◌, ◌<◌}
use native.Mathlib.Omega.{arith}
use borrow.Author.Tests.{lt-ltb, le-ltb, eqb-true, eqb-false, eq-eqb}
use lib.Dec.{eqb, ltb}
use lib.ListN.{length, take, drop, length-take, length-drop, length-append, drop_of_length-le, get_or-eq_default}
use lib.Seq.{get_or-set_same, drop-drop}
use Rattle.packet.specs.Packet.{packet_of}
use Rattle.session.specs.declared.reply.Reply.TheVariants as reply
use Rattle.session.specs.declared.reply.Answer.TheVariants as answer
use Rattle.session.specs.Reply.{Told, told, sent_info, tell}
use Rattle.calls.specs.Call.{Call, login, receive, request, lose}
use Rattle.model.specs.State.{Downlink, Session, closed_session, with_down, Model, session_at, in_session, Stepped, stepped}
use Rattle.model.specs.Downlink.{on_request}
use Rattle.model.specs.Step.{ends_in, refusal, step}
use Rattle.steps.specs.Parts.{session_in, sent_by, type_of}
use Rattle.steps.specs.Sound.{Sound}
use Rattle.steps.specs.Naming.{Named}
use Rattle.transfers.specs.Downloads.{for_uplink, request_or_uplink, own_or_other, requests_and_uplink, asks_in, asks, sent_to, data_in, data_to, end_to}
use Rattle.transfers.specs.Directories.{state_after}
use Rattle.steps.proofs.Changes.{sound_step}
use Rattle.steps.proofs.Naming.{named_step}
use Rattle.steps.proofs.Calls.{by_lt, open_refusal, short_step, goes, others_leave}
use Rattle.transfers.proofs.Uplink.{clash, sent_in, sent_info_law, NoData, silence, SamePlace, place_by, place_on, uplink_beside}

-- two tests in a row
pub first_is : (b t : Bool) → cond b t false ≡ true → (b ≡ true) × (t ≡ true)
first_is true t e = (refl, e)
first_is false t e = clash e

-- a call of the session itself is a request or for its uplink
record Allowed (m : Model) (session : ℕ) (c : Call) (cs : List Call) : Type 0 where
  own : session_in c ≡ session → request_or_uplink m c ≡ true
  others : requests_and_uplink (step m c).after session cs ≡ true

allowed : (m : Model) (session : ℕ) (c : Call) (cs : List Call) → requests_and_uplink m session (c ∷ cs) ≡ true → Allowed m session c cs
unfolding requests_and_uplink own_or_other
allowed m session c cs e =
    let p = first_is (own_or_other m session c) (requests_and_uplink (step m c).after session cs) e in
    record { own = λ q. rw (eq-eqb (session_in c) session q) at p.0; others = p.1 }

-- ---- packets

data_packet : (info : List ℕ) → data_in (packet_of 0 info) ≡ info
unfolding data_in packet_of
data_packet info = rw (eq-eqb ((0 + 32 * (length info / 256)) % 32) 0 (omega arith))

data_type : (info : List ℕ) → type_of (packet_of 0 info) ≡ 0
unfolding packet_of
data_type info = omega arith

data_end_law : data_in (packet_of 1 []) ≡ []
unfolding data_in packet_of
data_end_law = refl

end_type : type_of (packet_of 1 []) ≡ 1
unfolding packet_of
end_type = refl

-- ---- what is left of the bytes

front_back : (n : ℕ) (xs : List ℕ) → take n xs ++ drop (length (take n xs)) xs ≡ xs
front_back zero xs = refl
front_back (suc n) [] = refl
front_back (suc n) (x ∷ xs) = ap (λ (l : List ℕ). x ∷ l) (front_back n xs)

-- the next DATA and what is left behind it
next_left : (bytes : List ℕ) (at : ℕ) → take 256 (drop at bytes) ++ drop (at + length (take 256 (drop at bytes))) bytes ≡ drop at bytes
next_left bytes at =
    ap (λ (l : List ℕ). take 256 (drop at bytes) ++ l) (sym (drop-drop (length (take 256 (drop at bytes))) at bytes)) ∙ front_back 256 (drop at bytes)

-- one request fewer is needed after it
one_fewer : (size at m n : ℕ) → at < size → m ≡ min 256 (size - at) → (size - at + 255) / 256 + 1 ≤ 1 + n → (size - (at + m) + 255) / 256 + 1 ≤ n
one_fewer size at m n h e k = omega arith

-- ---- a session that is being sent bytes

-- What it may be sent: the downlink is `going at` while the byte at `at` is next, and `over` behind DATA_END; `Stays` is what the state must have, and no
-- call takes it away.
pub record Source (i : ℕ) (bytes : List ℕ) : Type 1 where
  pub going : ℕ → Downlink
  pub over : Downlink
  pub Stays : Model → Type 0
  pub kept : (m : Model) (c : Call) (at : ℕ) → Sound m → Named m → (session_at m i).down ≡ going at → Stays m → Stays (step m c).after
  pub more : (m : Model) (at : ℕ) (out : List ℕ) → Stays m → at < length bytes
      → on_request (going at) m i out
      ≡ stepped (sent_info 0 (take 256 (drop at bytes)) 0 out) (in_session i (with_down (going (at + length (take 256 (drop at bytes))))) m)
  pub end : (m : Model) (at : ℕ) (out : List ℕ) → Stays m → length bytes ≤ at
      → on_request (going at) m i out ≡ stepped (tell reply.DataEnd 0 out) (in_session i (with_down over) m)
  pub rests : (m : Model) (out : List ℕ) → on_request over m i out ≡ stepped (tell reply.Nothing 0 out) m

-- s₀ is the session at the beginning
module _ (session : ℕ) (one : 1 ≤ session) (bytes : List ℕ) (source : Source (session - 1) bytes) (s₀ : Session) where
  abbrev i : ℕ
  i = session - 1

  pub record Has (m : Model) (at : ℕ) : Type 0 where
    pub linked : (session_at m i).linked ≡ true
    pub down : (session_at m i).down ≡ source.going at
    pub place : SamePlace s₀ (session_at m i)
    pub stays : source.Stays m
    pub sound : Sound m
    pub named : Named m

  -- DATA_END was sent
  record Over (m : Model) : Type 0 where
    linked : (session_at m i).linked ≡ true
    down : (session_at m i).down ≡ source.over
    place : SamePlace s₀ (session_at m i)

  -- the requests with room in one call
  abbrev asked : Call → ℕ
  asked c = cond (eqb (session_in c) session) (asks_in c) 0

  -- what a call comes to while bytes are being sent
  data Turn (m : Model) (c : Call) (at : ℕ) : Type 0 where
    silent : NoData (sent_to m session c) → asked c ≡ 0 → Has (step m c).after at → Turn m c at
    more : sent_to m session c ≡ packet_of 0 (take 256 (drop at bytes))
        → asked c ≡ 1
        → at < length bytes
        → Has (step m c).after (at + length (take 256 (drop at bytes)))
        → Turn m c at
    ends : sent_to m session c ≡ packet_of 1 [] → asked c ≡ 1 → length bytes ≤ at → Over (step m c).after → Turn m c at

  -- what is left to say of the state after a call
  has : (m : Model) (c : Call) (at to : ℕ) → Has m at → (s : Session) → session_at (step m c).after i ≡ s → s.linked ≡ true → s.down ≡ source.going to
      → SamePlace (session_at m i) s → Has (step m c).after to
  has m c at to a s e l d p =
      record {
        linked = ap (λ (x : Session). x.linked) e ∙ l;
        down = ap (λ (x : Session). x.down) e ∙ d;
        place = place_by s₀ s (place_on s₀ (session_at m i) s a.place p) (session_at (step m c).after i) e;
        stays = source.kept m c at a.sound a.named a.down a.stays;
        sound = sound_step m c a.sound;
        named = named_step m a.named a.sound c;
      }

  over : (m : Model) (c : Call) → SamePlace s₀ (session_at m i) → (s : Session) → session_at (step m c).after i ≡ s → s.linked ≡ true
      → s.down ≡ source.over → SamePlace (session_at m i) s → Over (step m c).after
  over m c q s e l d p =
      record {
        linked = ap (λ (x : Session). x.linked) e ∙ l;
        down = ap (λ (x : Session). x.down) e ∙ d;
        place = place_by s₀ s (place_on s₀ (session_at m i) s q p) (session_at (step m c).after i) e;
      }

  unmoved : (s : Session) → SamePlace s s
  unmoved s = record { selected = refl; next = refl }

  there : (m : Model) → (session_at m i).linked ≡ true → i < length m.sessions
  there m e =
      by_lt i (length m.sessions) (λ k. k)
      (λ k. clash (sym (ap (λ (s : Session). s.linked) (get_or-eq_default m.sessions closed_session k)) ∙ e))

  -- ---- calls for other sessions

  other_sent : (m : Model) (c : Call) → eqb (session_in c) session ≡ false → NoData (sent_to m session c)
  unfolding sent_to
  other_sent m c q = rw q silence

  -- ---- its own requests

  sent_by_law : (m : Model) (c : Call) → session_in c ≡ session → sent_to m session c ≡ sent_in (step m c).told
  unfolding sent_to
  sent_by_law m c q = rw (eq-eqb (session_in c) session q)

  own_sent : (m : Model) (out : List ℕ) (t : Stepped) → step m (request session out) ≡ t → sent_to m session (request session out) ≡ sent_in t.told
  own_sent m out t e = sent_by_law m (request session out) refl ∙ ap (λ (s : Stepped). sent_in s.told) e

  own_asked : (out : List ℕ) → asked (request session out) ≡ cond (ltb (length out) 258) 0 1
  unfolding asks_in
  own_asked out = rw (eq-eqb session session refl)

  end_sent : (out : List ℕ) → sent_in (tell reply.DataEnd 0 out) ≡ packet_of 1 []
  unfolding tell
  end_sent out = sent_info_law 1 [] 0 out

  module _ (m : Model) (linked : (session_at m i).linked ≡ true) (out : List ℕ) where
    -- of an output that is too short
    short : ltb (length out) 258 ≡ true → step m (request session out) ≡ stepped (told (answer.Refused 32) out) m
    unfolding step
    short t =
        short_step (refusal m session true (length out)) m out _
        (open_refusal m session (length out) one (there m linked) linked ∙ ap (λ (b : Bool). cond b 32 0) t)

    -- of one that has room
    roomy : (d : Downlink) → (session_at m i).down ≡ d → 258 ≤ length out → step m (request session out) ≡ on_request d m i out
    unfolding step
    roomy d e k =
        goes (refusal m session true (length out)) m out (on_request (session_at m i).down m i out)
        (open_refusal m session (length out) one (there m linked) linked ∙ ap (λ (b : Bool). cond b 32 0) (le-ltb (length out) 258 k))
        ∙ ap (λ (x : Downlink). on_request x m i out) e

    moved : (d : Downlink) (t : Told) → step m (request session out) ≡ stepped t (in_session i (with_down d) m)
        → session_at (step m (request session out)).after i ≡ with_down d (session_at m i)
    moved d t e =
        ap (λ (x : Stepped). session_at x.after i) e
        ∙ get_or-set_same m.sessions i (with_down d (session_at m i)) closed_session (there m linked)

    asked_once : 258 ≤ length out → asked (request session out) ≡ 1
    asked_once room = own_asked out ∙ ap (λ (b : Bool). cond b 0 1) (le-ltb (length out) 258 room)

  module _ (m : Model) (at : ℕ) (a : Has m at) (out : List ℕ) where
    turn_short : ltb (length out) 258 ≡ true → Turn m (request session out) at
    unfolding sent_by
    turn_short t =
        let s = short m a.linked out t in
        silent (subst NoData (sym (own_sent m out _ s)) silence) (own_asked out ∙ ap (λ (b : Bool). cond b 0 1) t)
        (has m (request session out) at at a (session_at m i) (ap (λ (x : Stepped). session_at x.after i) s) a.linked a.down (unmoved (session_at m i)))

    turn_more : 258 ≤ length out → at < length bytes → Turn m (request session out) at
    turn_more room k =
        let s = roomy m a.linked out (source.going at) a.down room ∙ source.more m at out a.stays k in
        let q = moved m a.linked out (source.going (at + length (take 256 (drop at bytes)))) _ s in
        more (own_sent m out _ s ∙ sent_info_law 0 (take 256 (drop at bytes)) 0 out) (asked_once m a.linked out room) k
        (has m (request session out) at (at + length (take 256 (drop at bytes))) a _ q a.linked refl (record { selected = refl; next = refl }))

    turn_end : 258 ≤ length out → length bytes ≤ at → Turn m (request session out) at
    turn_end room k =
        let s = roomy m a.linked out (source.going at) a.down room ∙ source.end m at out a.stays k in
        let q = moved m a.linked out source.over _ s in
        ends (own_sent m out _ s ∙ end_sent out) (asked_once m a.linked out room) k
        (over m (request session out) a.place _ q a.linked refl (record { selected = refl; next = refl }))

    own_turn : Turn m (request session out) at
    own_turn =
        by_lt (length out) 258 (λ k. turn_short (lt-ltb (length out) 258 k))
        (λ room. by_lt at (length bytes) (turn_more room) (turn_end room))

  -- of one that was sent all
  record Rests (m : Model) (c : Call) : Type 0 where
    none : NoData (sent_to m session c)
    over : Over (step m c).after

  rest_by : (m : Model) (out : List ℕ) (t : Told) → Over m → step m (request session out) ≡ stepped t m → sent_in t ≡ [] → Rests m (request session out)
  rest_by m out t a s e =
      record {
        none = subst NoData (sym (own_sent m out _ s ∙ e)) silence;
        over = over m (request session out) a.place (session_at m i) (ap (λ (x : Stepped). session_at x.after i) s) a.linked a.down
            (unmoved (session_at m i));
      }

  own_rest : (m : Model) (out : List ℕ) → Over m → Rests m (request session out)
  unfolding tell sent_by
  own_rest m out a =
      by_lt (length out) 258
      (λ k. rest_by m out (told (answer.Refused 32) out) a (short m a.linked out (lt-ltb (length out) 258 k)) refl)
      (λ room.
      rest_by m out (told (answer.Quiet 0) out) a (roomy m a.linked out source.over a.down room ∙ source.rests m out) refl)

  -- ---- its own bytes

  record Uploads (m : Model) (c : Call) : Type 0 where
    sent : NoData (sent_to m session c)
    linked : (session_at (step m c).after i).linked ≡ true
    down : (session_at (step m c).after i).down ≡ (session_at m i).down
    place : SamePlace (session_at m i) (session_at (step m c).after i)

  uploads : (m : Model) (clock : ℕ) (input out : List ℕ) → (session_at m i).linked ≡ true → request_or_uplink m (receive session clock input out) ≡ true
      → Uploads m (receive session clock input out)
  unfolding request_or_uplink
  uploads m clock input out linked e =
      let p = first_is (for_uplink (ends_in ((session_at m i).held ++ input))) (session_at (step m (receive session clock input out)).after i).linked e in
      let b = uplink_beside m session clock input out one (there m linked) linked p.0 in
      let d = b.down p.1 in
      record {
        sent = subst NoData (sym (sent_by_law m (receive session clock input out) refl)) b.sent;
        linked = p.1;
        down = d.down;
        place = d.place;
      }

  no_request : (clock : ℕ) (input out : List ℕ) → asked (receive session clock input out) ≡ 0
  unfolding asks_in
  no_request clock input out = rw (eq-eqb session session refl)

  turn_uploads : (m : Model) (at : ℕ) → Has m at → (clock : ℕ) (input out : List ℕ) → request_or_uplink m (receive session clock input out) ≡ true
      → Turn m (receive session clock input out) at
  turn_uploads m at a clock input out e =
      let u = uploads m clock input out a.linked e in
      silent u.sent (no_request clock input out)
      (has m (receive session clock input out) at at a _ refl u.linked (u.down ∙ a.down) u.place)

  rest_uploads : (m : Model) → Over m → (clock : ℕ) (input out : List ℕ) → request_or_uplink m (receive session clock input out) ≡ true
      → Rests m (receive session clock input out)
  rest_uploads m a clock input out e =
      let u = uploads m clock input out a.linked e in
      record {
        none = u.sent;
        over = over m (receive session clock input out) a.place _ refl u.linked (u.down ∙ a.down) u.place;
      }

  -- ---- any call

  -- its own call is a request, or bytes for its uplink
  by_call : (m : Model) (P : Call → Type 0) → ((out : List ℕ) → P (request session out))
      → ((clock : ℕ) (input out : List ℕ) → request_or_uplink m (receive session clock input out) ≡ true → P (receive session clock input out))
      → (c : Call) → session_in c ≡ session → request_or_uplink m c ≡ true → P c
  unfolding request_or_uplink
  by_call m P g h (login k clock out) e q = clash q
  by_call m P g h (receive k clock input out) e q =
      subst (λ (x : ℕ). request_or_uplink m (receive x clock input out) ≡ true → P (receive x clock input out)) (sym e) (h clock input out) q
  by_call m P g h (request k out) e q = subst (λ (x : ℕ). P (request x out)) (sym e) (g out)
  by_call m P g h (lose k) e q = clash q

  turn : (m : Model) (c : Call) (at : ℕ) → Has m at → (session_in c ≡ session → request_or_uplink m c ≡ true) → Turn m c at
  turn m c at a g = go (eqb (session_in c) session) refl
    where
      go : (b : Bool) → eqb (session_in c) session ≡ b → Turn m c at
      go true q =
          let e = eqb-true (session_in c) session q in by_call m (λ (x : Call). Turn m x at) (λ out. own_turn m at a out) (turn_uploads m at a) c e (g e)
      go false q =
          let w = others_leave session one m c (eqb-false (session_in c) session q) in
          silent (other_sent m c q) (ap (λ (b : Bool). cond b (asks_in c) 0) q)
          (has m c at at a (session_at m i) w a.linked a.down (unmoved (session_at m i)))

  rest : (m : Model) (c : Call) → Over m → (session_in c ≡ session → request_or_uplink m c ≡ true) → Rests m c
  rest m c a g = go (eqb (session_in c) session) refl
    where
      go : (b : Bool) → eqb (session_in c) session ≡ b → Rests m c
      go true q =
          let e = eqb-true (session_in c) session q in by_call m (λ (x : Call). Rests m x) (λ out. own_rest m out a) (rest_uploads m a) c e (g e)
      go false q =
          let w = others_leave session one m c (eqb-false (session_in c) session q) in
          record { none = other_sent m c q; over = over m c a.place (session_at m i) w a.linked a.down (unmoved (session_at m i)) }

  -- ---- all further calls

  -- after DATA_END nothing is sent
  record Nothing (m : Model) (cs : List Call) : Type 0 where
    none : data_to m session cs ≡ []
    no_end : end_to m session cs ≡ false
    over : Over (state_after m cs)

  quiet : (cs : List Call) (m : Model) → Over m → requests_and_uplink m session cs ≡ true → Nothing m cs
  unfolding data_to end_to state_after
  quiet [] m a e = record { none = refl; no_end = refl; over = a }
  quiet (c ∷ cs) m a e =
      let p = allowed m session c cs e in
      let r = rest m c a p.own in
      on r (quiet cs (step m c).after r.over p.others)
    where
      on : Rests m c → Nothing (step m c).after cs → Nothing m (c ∷ cs)
      on r q = record { none = rw r.none.none q.none; no_end = rw r.none.no_end q.no_end; over = q.over }

  -- what is sent, of what is left, and the session then
  pub record Sent (m : Model) (cs : List Call) (at : ℕ) : Type 0 where
    pub back : List ℕ
    pub front : data_to m session cs ++ back ≡ drop at bytes
    pub whole : end_to m session cs ≡ true → data_to m session cs ≡ drop at bytes
    pub linked : (session_at (state_after m cs) i).linked ≡ true
    pub down : (session_at (state_after m cs) i).down ≡ cond (end_to m session cs) source.over (source.going (at + length (data_to m session cs)))
    pub place : SamePlace s₀ (session_at (state_after m cs) i)

  pub sent_all_law : (cs : List Call) (m : Model) (at : ℕ) → Has m at → requests_and_uplink m session cs ≡ true → Sent m cs at
  unfolding data_to end_to state_after
  sent_all_law [] m at a e =
      record {
        back = drop at bytes;
        front = refl;
        whole = λ q. clash q;
        linked = a.linked;
        down = a.down ∙ ap source.going (omega arith);
        place = a.place;
      }
  sent_all_law (c ∷ cs) m at a e =
      let p = allowed m session c cs e in
      on (turn m c at a p.own) (λ to b. sent_all_law cs (step m c).after to b p.others) p.others
    where
      info : List ℕ
      info = take 256 (drop at bytes)

      further : (rest : List ℕ) → source.going (at + length info + length rest) ≡ source.going (at + length (info ++ rest))
      further rest = let l = length-append info rest in ap source.going (omega arith)

      behind : (left : List ℕ) → info ++ left ≡ drop at bytes → drop (at + length info) bytes ≡ left → Sent (step m c).after cs (at + length info)
          → sent_to m session c ≡ packet_of 0 info
          → Sent m (c ∷ cs) at
      behind left j d r q =
          record {
            back = r.back;
            front = rw (q, data_packet info) (append_assoc info (data_to (step m c).after session cs) r.back
                ∙ ap (λ (l : List ℕ). info ++ l) (r.front ∙ d) ∙ j);
            whole = rw (q, data_packet info, data_type info) (λ t. ap (λ (l : List ℕ). info ++ l) (r.whole t ∙ d) ∙ j);
            linked = r.linked;
            down = rw (q, data_packet info, data_type info)
                (r.down ∙ ap (cond (end_to (step m c).after session cs) source.over) (further (data_to (step m c).after session cs)));
            place = r.place;
          }

      on : Turn m c at → ((to : ℕ) → Has (step m c).after to → Sent (step m c).after cs to) → requests_and_uplink (step m c).after session cs ≡ true
          → Sent m (c ∷ cs) at
      on (silent q _ b) ih o =
          let r = ih at b in
          record {
            back = r.back;
            front = rw q.none r.front;
            whole = rw (q.none, q.no_end) r.whole;
            linked = r.linked;
            down = rw (q.none, q.no_end) r.down;
            place = r.place;
          }
      on (more q _ k b) ih o = behind (drop (at + length info) bytes) (next_left bytes at) refl (ih (at + length info) b) q
      on (ends q _ k b) ih o =
          let r = quiet cs (step m c).after b o in
          let left = sym (drop_of_length-le bytes k) in
          record {
            back = [];
            front = rw (q, data_end_law, r.none) left;
            whole = λ _. rw (q, data_end_law, r.none) left;
            linked = r.over.linked;
            down = rw (q, end_type) r.over.down;
            place = r.over.place;
          }

  pub all_ended : (cs : List Call) (m : Model) (at : ℕ) → Has m at → requests_and_uplink m session cs ≡ true
      → (length bytes - at + 255) / 256 + 1 ≤ asks session cs
      → end_to m session cs ≡ true
  unfolding end_to asks
  all_ended [] m at a e k = absurd (omega arith)
  all_ended (c ∷ cs) m at a e k =
      let p = allowed m session c cs e in
      on (turn m c at a p.own) (λ to b l. all_ended cs (step m c).after to b p.others l) k
    where
      info : List ℕ
      info = take 256 (drop at bytes)

      fewer : at < length bytes → asked c ≡ 1 → (length bytes - at + 255) / 256 + 1 ≤ asked c + asks session cs
          → (length bytes - (at + length info) + 255) / 256 + 1 ≤ asks session cs
      fewer j z k =
          let l : length info ≡ min 256 (length bytes - at) = length-take 256 (drop at bytes) ∙ ap (min 256) (length-drop at bytes) in
          one_fewer (length bytes) at (length info) (asks session cs) j l (omega arith)

      on : Turn m c at
          → ((to : ℕ) → Has (step m c).after to → (length bytes - to + 255) / 256 + 1 ≤ asks session cs → end_to (step m c).after session cs ≡ true)
          → (length bytes - at + 255) / 256 + 1 ≤ asked c + asks session cs
          → cond (eqb (type_of (sent_to m session c)) 1) true (end_to (step m c).after session cs) ≡ true
      on (silent q z b) ih k = rw q.no_end (ih at b (omega arith))
      on (more q z j b) ih k = rw (q, data_type info) (ih (at + length info) b (fewer j z k))
      on (ends q z j b) ih k = rw (q, end_type)
