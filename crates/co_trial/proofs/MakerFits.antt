-- Each event that the maker makes names nodes of the head, and is counted.
use Rattle.std.proofs.Common.{◌≡◌, ℕ, zero, suc, ◌+◌, ◌-◌, ◌<◌, ◌≤◌, ◌==◌, nat_lt, min, Bool, true, false, if◌then◌else◌, List, [], ◌∷◌, ◌++◌, length, reverse, get_or, refl, sym, ◌∙◌, subst, arith}
use Rattle.std.proofs.Math.Nat.{mod-lt}
use Rattle.std.proofs.lemmas.Bool.Decides.{nat_tests}
use Rattle.std.proofs.lemmas.List.{reverse-append}
use Rattle.std.specs.List.{AllByRecursion}
use Rattle.rand_pcg.specs.Pcg.{pcg32}
use Rattle.co_base.specs.declared.leaves.Leaves.{Leaves}
use Rattle.co_base.specs.declared.leaves.Leaves.TheVariants as leaves
use Rattle.co_base.specs.declared.node.Node.{Node}
use Rattle.co_base.specs.declared.node.Node.TheVariants as node
use Rattle.co_message.specs.declared.event.Event.{Event}
use Rattle.co_message.specs.declared.event.Event.TheVariants as event
use Rattle.co_message.specs.declared.message.Message.{Message}
use Rattle.co_message.specs.declared.message.Message.TheVariants as message
use Rattle.co_make.specs.Making as making
use Rattle.co_make.specs.Making.{Making, picked, node_at, begun, operation, operated_in, operated, taken, asked, place_of, delivered, recent, at_member, at_coord, timer_fired, if_begun, at_node, left, armed, checked_or_armed, chosen, next_event, key_text}
use Rattle.co_schedule.specs.View.{IsEventFor, IsWithin, IsNode}
use Rattle.co_settle.specs.Notes.{IsForHead}
use Rattle.co_trial.specs.Making.{HasFields, HasMessage}

-- the nodes of an event are those of a trial: three members and two coordinators
abbrev pub NodesFit : Event → Type 0
NodesFit (event.Begin t c) = IsWithin 1 2 c
NodesFit (event.Local t m) = IsWithin 1 3 m
NodesFit (event.Read t m key) = IsWithin 1 3 m
NodesFit (event.Write t m key value) = IsWithin 1 3 m
NodesFit (event.Erase t m key) = IsWithin 1 3 m
NodesFit (event.Scan t m span) = IsWithin 1 3 m
NodesFit (event.Commit t) = Unit {0}
NodesFit (event.Abort t) = Unit {0}
NodesFit (event.Deliver note) = IsForHead 3 2 note
NodesFit (event.Vote t m) = IsWithin 1 3 m
NodesFit (event.Timer t at) = IsNode 3 2 at
NodesFit (event.Ask t m) = IsWithin 1 3 m
NodesFit (event.Resend t c) = IsWithin 1 2 c
NodesFit (event.Crash at) = IsNode 3 2 at
NodesFit (event.Restart at) = IsNode 3 2 at
NodesFit (event.Arm at call leaves) = IsNode 3 2 at × IsWithin 1 4 call
NodesFit (event.Checkpoint at) = IsNode 3 2 at

message_fits : (note : Message) → HasMessage note → IsForHead 3 2 note → IsEventFor 3 2 (event.Deliver note)
message_fits (message.Prepare t c m count) f h = (f.0, h.1, h.0, f.1)
message_fits (message.Vote t m c granted) f h = (f, h.0, h.1)
message_fits (message.Decide t c m commit) f h = (f, h.1, h.0)
message_fits (message.Ask t m c) f h = (f, h.0, h.1)
message_fits (message.Ack t m c) f h = (f, h.0, h.1)

-- with fields in their sets
pub event_fits : (e : Event) → HasFields e → NodesFit e → IsEventFor 3 2 e
event_fits (event.Begin t c) f h = (f, h)
event_fits (event.Local t m) f h = (f, h)
event_fits (event.Read t m key) f h = (f.0, h, f.1)
event_fits (event.Write t m key value) f h = (f.0, h, f.1, f.2)
event_fits (event.Erase t m key) f h = (f.0, h, f.1)
event_fits (event.Scan t m span) f h = (f.0, h, f.1.0, f.1.1, f.1.2)
event_fits (event.Commit t) f h = f
event_fits (event.Abort t) f h = f
event_fits (event.Deliver note) f h = message_fits note f h
event_fits (event.Vote t m) f h = (f, h)
event_fits (event.Timer t at) f h = (f, h)
event_fits (event.Ask t m) f h = (f, h)
event_fits (event.Resend t c) f h = (f, h)
event_fits (event.Crash at) f h = h
event_fits (event.Restart at) f h = h
event_fits (event.Arm at call leaves) f h = (h.0, h.1, f)
event_fits (event.Checkpoint at) f h = h

-- it names nodes of the head, and so many events were made
abbrev pub Fits : ℕ → Event × Making → Type 0
Fits n p = NodesFit p.0 × (p.1.made ≡ n)

fits_if : (n : ℕ) (b : Bool) (x y : Event × Making) → Fits n x → Fits n y → Fits n (if b then x else y)
fits_if n true x y h k = h
fits_if n false x y h k = k

nodes_if : (b : Bool) (x y : Event) → NodesFit x → NodesFit y → NodesFit (if b then x else y)
nodes_if true x y h k = h
nodes_if false x y h k = k

-- ---- choices

pub picked_made : (count : ℕ) (m : Making) → (picked count m).1.made ≡ m.made
unfolding picked
picked_made count m = refl

picked_below : (count : ℕ) (m : Making) → 0 < count → (picked count m).0 < count
unfolding picked
picked_below count m some = mod-lt (pcg32 m.generator).0 some

within_member : (m : Making) → IsWithin 1 3 (making.member m).0
unfolding making.member
within_member m = let h = picked_below 3 m (omega arith) in (omega arith, omega (arith, h))

member_made : (m : Making) → (making.member m).1.made ≡ m.made
unfolding making.member
member_made m = picked_made 3 m

within_coord : (m : Making) → IsWithin 1 2 (making.coord m).0
unfolding making.coord
within_coord m = let h = picked_below 2 m (omega arith) in (omega arith, omega (arith, h))

coord_made : (m : Making) → (making.coord m).1.made ≡ m.made
unfolding making.coord
coord_made m = picked_made 2 m

node_within : (place : ℕ) → place < 5 → IsNode 3 2 (node_at place)
node_within place few = by (nat_lt place 3) refl
  where
    by : (b : Bool) → nat_lt place 3 ≡ b → IsNode 3 2 (if b then node.Member (place + 1) else node.Coord (place - 2))
    by true e = let l : place < 3 = grind (arith, nat_tests, e) in (omega arith, omega (arith, l))
    by false e = let l : 3 ≤ place = grind (arith, nat_tests, e) in (omega (arith, l), omega (arith, few))

within_node : (m : Making) → IsNode 3 2 (making.node m).0
unfolding making.node
within_node m = node_within (picked 5 m).0 (picked_below 5 m (omega arith))

node_made : (m : Making) → (making.node m).1.made ≡ m.made
unfolding making.node
node_made m = picked_made 5 m

recent_made : (m : Making) → (recent m).1.made ≡ m.made
unfolding recent
recent_made m = picked_made (min (m.fresh - 1) 16) m

-- ---- events

begun_fits : (n : ℕ) (m : Making) → m.made ≡ n → Fits n (begun m)
unfolding begun
begun_fits n m e = (within_coord m, coord_made m ∙ e)

operation_fits : (number t at which : ℕ) (key : List ℕ) → IsWithin 1 3 at → NodesFit (operation number t at key which)
operation_fits number t at which key own =
    nodes_if (nat_lt which 5) _ _ own (nodes_if (nat_lt which 8) _ _ own (nodes_if (which == 8) _ _ own own))

inside_fits : (n : ℕ) (m : Making) → m.made ≡ n → Fits n (operated_in m)
unfolding operated_in
inside_fits n m e =
    let place = picked (length m.window) m in
    let at = making.member place.1 in
    let key = picked 20 at.1 in
    let which = picked 10 key.1 in (
      operation_fits (m.made + 1) (get_or m.window place.0 0) at.0 which.0 (key_text key.0) (within_member place.1),
      picked_made 10 key.1 ∙ picked_made 20 at.1 ∙ member_made place.1 ∙ picked_made (length m.window) m ∙ e,
    )

operated_fits : (n : ℕ) (m : Making) → m.made ≡ n → Fits n (operated m)
operated_fits n m e = fits_if n (length m.window == 0) (begun m) (operated_in m) (begun_fits n m e) (inside_fits n m e)

taken_made : (m : Making) → (taken m).1.made ≡ m.made
unfolding taken
taken_made m = picked_made (length m.window) m

asked_fits : (n : ℕ) (ends : ℕ → Event) (m : Making) → ((t : ℕ) → NodesFit (ends t)) → m.made ≡ n → Fits n (asked ends m)
asked_fits n ends m any e = fits_if n (length m.window == 0) (begun m) (ends (taken m).0, (taken m).1) (begun_fits n m e) (any (taken m).0, taken_made m ∙ e)

-- a message at any place
at_place : {A : Type 0} (P : A → Type 0) (xs : List A) (i : ℕ) (d : A) → AllByRecursion P xs → P d → P (get_or xs i d)
at_place P [] i d all h = h
at_place P (x ∷ xs) zero d all h = all.0
at_place P (x ∷ xs) (suc i) d all h = at_place P xs i d all.1 h

all_more : {A : Type 0} (P : A → Type 0) (xs ys : List A) → AllByRecursion P xs → AllByRecursion P ys → AllByRecursion P (xs ++ ys)
all_more P [] ys h k = k
all_more P (x ∷ xs) ys h k = (h.0, all_more P xs ys h.1 k)

all_reversed : {A : Type 0} (P : A → Type 0) (xs : List A) → AllByRecursion P xs → AllByRecursion P (reverse xs)
all_reversed P [] h = tt
all_reversed P (x ∷ xs) h = subst (AllByRecursion P) (sym (reverse-append (x ∷ []) xs)) (all_more P (reverse xs) (x ∷ []) (all_reversed P xs h.1) (h.0, tt))

place_made : (count : ℕ) (m : Making) → (place_of count m).1.made ≡ m.made
unfolding place_of
place_made count m = by ((picked 2 m).0 == 0)
  where
    by : (b : Bool) → (if b then picked count (picked 2 m).1 else (count - 1 - (picked (min count 16) (picked 2 m).1).0, (picked (min count 16) (picked 2 m).1).1)).1.made ≡ m.made
    by true = picked_made count (picked 2 m).1 ∙ picked_made 2 m
    by false = picked_made (min count 16) (picked 2 m).1 ∙ picked_made 2 m

delivered_fits : (n : ℕ) (sent : List Message) (m : Making) → AllByRecursion (IsForHead 3 2) sent → m.made ≡ n → Fits n (delivered sent m)
unfolding delivered
delivered_fits n [] m all e = begun_fits n m e
delivered_fits n (last ∷ others) m all e =
    let place = place_of (length (last ∷ others)) m in
    (at_place (IsForHead 3 2) (reverse (last ∷ others)) place.0 last (all_reversed (IsForHead 3 2) (last ∷ others) all) all.0, place_made (length (last ∷ others)) m ∙ e)

if_begun_fits : (n : ℕ) (m : Making) (happens : Event × Making) → m.made ≡ n → Fits n happens → Fits n (if_begun m happens)
if_begun_fits n m happens e h = fits_if n (m.fresh == 1) (begun m) happens (begun_fits n m e) h

at_member_fits : (n : ℕ) (happens : ℕ → ℕ → Event) (m : Making) → ((t j : ℕ) → IsWithin 1 3 j → NodesFit (happens t j)) → m.made ≡ n → Fits n (at_member happens m)
unfolding at_member
at_member_fits n happens m any e = (any (recent m).0 (making.member (recent m).1).0 (within_member (recent m).1), member_made (recent m).1 ∙ recent_made m ∙ e)

at_coord_fits : (n : ℕ) (happens : ℕ → ℕ → Event) (m : Making) → ((t j : ℕ) → IsWithin 1 2 j → NodesFit (happens t j)) → m.made ≡ n → Fits n (at_coord happens m)
unfolding at_coord
at_coord_fits n happens m any e = (any (recent m).0 (making.coord (recent m).1).0 (within_coord (recent m).1), coord_made (recent m).1 ∙ recent_made m ∙ e)

timer_fits : (n : ℕ) (m : Making) → m.made ≡ n → Fits n (timer_fired m)
unfolding timer_fired
timer_fits n m e =
    let t = recent m in
    let which = picked 2 t.1 in
    let same = picked_made 2 t.1 ∙ recent_made m ∙ e in
    fits_if n (which.0 == 0) (event.Timer t.0 (node.Member (making.member which.1).0), (making.member which.1).1) (event.Timer t.0 (node.Coord (making.coord which.1).0), (making.coord which.1).1)
    (within_member which.1, member_made which.1 ∙ same) (within_coord which.1, coord_made which.1 ∙ same)

at_node_fits : (n : ℕ) (befalls : Node → Event) (m : Making) → ((at : Node) → IsNode 3 2 at → NodesFit (befalls at)) → m.made ≡ n → Fits n (at_node befalls m)
unfolding at_node
at_node_fits n befalls m any e = (any (making.node m).0 (within_node m), node_made m ∙ e)

abbrev behind : Leaves × Making → ℕ
behind r = r.1.made

left_made : (m : Making) → (left m).1.made ≡ m.made
unfolding left
left_made m = by ((picked 3 m).0 == 0) ((picked 3 m).0 == 1)
  where
    by : (a b : Bool) → behind (if a then (leaves.Old, (picked 3 m).1) else if b then (leaves.New, (picked 3 m).1) else (leaves.Filled ((picked 256 (picked 3 m).1).0 ∷ []), (picked 256 (picked 3 m).1).1)) ≡ m.made
    by true b = picked_made 3 m
    by false true = picked_made 3 m
    by false false = picked_made 256 (picked 3 m).1 ∙ picked_made 3 m

armed_fits : (n : ℕ) (m : Making) → m.made ≡ n → Fits n (armed m)
unfolding armed
armed_fits n m e =
    let at = making.node m in
    let call = picked 4 at.1 in
    let h = picked_below 4 at.1 (omega arith) in
    ((within_node m, (omega arith, omega (arith, h))), left_made call.1 ∙ picked_made 4 at.1 ∙ node_made m ∙ e)

checked_fits : (n : ℕ) (m : Making) → m.made ≡ n → Fits n (checked_or_armed m)
unfolding checked_or_armed
checked_fits n m e =
    let which = picked 2 m in
    let same = picked_made 2 m ∙ e in
    fits_if n (which.0 == 0) (at_node event.Checkpoint which.1) (armed which.1) (at_node_fits n event.Checkpoint which.1 (λ at h. h) same) (armed_fits n which.1 same)

chosen_fits : (n : ℕ) (sent : List Message) (which : ℕ) (m : Making) → AllByRecursion (IsForHead 3 2) sent → m.made ≡ n → Fits n (chosen sent which m)
chosen_fits n sent which m all e =
    fits_if n (nat_lt which 12) _ _ (fits_if n (nat_lt (length m.window) 8) _ _ (begun_fits n m e) (operated_fits n m e))
    (fits_if n (nat_lt which 47) _ _ (operated_fits n m e)
    (fits_if n (nat_lt which 55) _ _ (asked_fits n event.Commit m (λ t. tt) e)
    (fits_if n (nat_lt which 57) _ _ (asked_fits n event.Abort m (λ t. tt) e)
    (fits_if n (nat_lt which 85) _ _ (delivered_fits n sent m all e)
    (fits_if n (nat_lt which 91) _ _ (if_begun_fits n m _ e (at_member_fits n event.Vote m (λ t j h. h) e))
    (fits_if n (nat_lt which 93) _ _ (if_begun_fits n m _ e (timer_fits n m e))
    (fits_if n (nat_lt which 95) _ _ (if_begun_fits n m _ e (at_member_fits n event.Ask m (λ t j h. h) e))
    (fits_if n (which == 95) _ _ (if_begun_fits n m _ e (at_coord_fits n event.Resend m (λ t j h. h) e))
    (fits_if n (which == 96) _ _ (at_node_fits n event.Crash m (λ at h. h) e)
    (fits_if n (nat_lt which 99) _ _ (at_node_fits n event.Restart m (λ at h. h) e)
    (checked_fits n m e)))))))))))

-- the next event, where every message that was sent is for nodes of the head
pub next_fits : (sent : List Message) (m : Making) → AllByRecursion (IsForHead 3 2) sent → Fits (m.made + 1) (next_event sent m)
next_fits sent m all =
    let one : Making = record m { made = m.made + 1 } in
    chosen_fits (m.made + 1) sent (picked 100 one).0 (picked 100 one).1 all (picked_made 100 one)
