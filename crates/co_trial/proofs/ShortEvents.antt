-- Each event that the maker makes is short: keys of three bytes, and values of a letter and the number of the event.
use Rattle.std.proofs.Common.{ℕ, ◌+◌, ◌<◌, ◌≤◌, ◌==◌, nat_lt, Bool, true, false, if◌then◌else◌, List, [], ◌∷◌, length, get_or, arith}
use Rattle.std.specs.Prelude.{decimal}
use Rattle.std.proofs.lemmas.Fmt.{length-decimal-le}
use Rattle.co_base.specs.declared.node.Node.{Node}
use Rattle.co_base.specs.declared.node.Node.TheVariants as node
use Rattle.co_message.specs.declared.event.Event.{Event}
use Rattle.co_message.specs.declared.event.Event.TheVariants as event
use Rattle.co_message.specs.declared.message.Message.{Message}
use Rattle.co_make.specs.Making as making
use Rattle.co_make.specs.Making.{Making, picked, begun, operation, operated_in, operated, taken, asked, place_of, delivered, recent, at_member, at_coord, timer_fired, if_begun, at_node, left, armed, checked_or_armed, chosen, next_event, key_text, value_text}
use Rattle.co_trial.specs.Making.{IsShort}
use Rattle.co_trial.proofs.MakerFits.{picked_made}

short_event : (b : Bool) (x y : Event) → IsShort x → IsShort y → IsShort (if b then x else y)
short_event true x y h k = h
short_event false x y h k = k

short_if : (b : Bool) (x y : Event × Making) → IsShort x.0 → IsShort y.0 → IsShort (if b then x else y).0
short_if true x y h k = h
short_if false x y h k = k

value_bytes : (n : ℕ) → n ≤ 60001 → length (value_text n) ≤ 6
value_bytes n few = let d : length (decimal n) ≤ 5 = length-decimal-le 5 n (omega arith) (omega (arith, few)) (omega (arith, few)) in omega (arith, d)

operation_short : (number t at which key : ℕ) → number ≤ 60001 → IsShort (operation number t at (key_text key) which)
operation_short number t at which key few =
    let v = value_bytes number few in
    short_event (nat_lt which 5) _ _ (omega arith) (short_event (nat_lt which 8) _ _ (omega (arith, v)) (short_event (which == 8) _ _ (omega arith) (omega arith)))

begun_short : (m : Making) → IsShort (begun m).0
unfolding begun
begun_short m = omega arith

inside_short : (m : Making) → m.made ≤ 60000 → IsShort (operated_in m).0
unfolding operated_in
inside_short m few =
    let place = picked (length m.window) m in
    let at = making.member place.1 in
    let key = picked 20 at.1 in
    let which = picked 10 key.1 in
    operation_short (m.made + 1) (get_or m.window place.0 0) at.0 which.0 key.0 (omega (arith, few))

operated_short : (m : Making) → m.made ≤ 60000 → IsShort (operated m).0
operated_short m few = short_if (length m.window == 0) (begun m) (operated_in m) (begun_short m) (inside_short m few)

asked_short : (ends : ℕ → Event) (m : Making) → ((t : ℕ) → IsShort (ends t)) → IsShort (asked ends m).0
asked_short ends m all = short_if (length m.window == 0) (begun m) (ends (taken m).0, (taken m).1) (begun_short m) (all (taken m).0)

delivered_short : (sent : List Message) (m : Making) → IsShort (delivered sent m).0
unfolding delivered
delivered_short [] m = begun_short m
delivered_short (last ∷ others) m = omega arith

if_begun_short : (m : Making) (happens : Event × Making) → IsShort happens.0 → IsShort (if_begun m happens).0
if_begun_short m happens h = short_if (m.fresh == 1) (begun m) happens (begun_short m) h

at_member_short : (happens : ℕ → ℕ → Event) (m : Making) → ((t j : ℕ) → IsShort (happens t j)) → IsShort (at_member happens m).0
unfolding at_member
at_member_short happens m all = all (recent m).0 (making.member (recent m).1).0

at_coord_short : (happens : ℕ → ℕ → Event) (m : Making) → ((t j : ℕ) → IsShort (happens t j)) → IsShort (at_coord happens m).0
unfolding at_coord
at_coord_short happens m all = all (recent m).0 (making.coord (recent m).1).0

timer_short : (m : Making) → IsShort (timer_fired m).0
unfolding timer_fired
timer_short m =
    let t = recent m in
    let which = picked 2 t.1 in
    short_if (which.0 == 0) (event.Timer t.0 (node.Member (making.member which.1).0), (making.member which.1).1) (event.Timer t.0 (node.Coord (making.coord which.1).0), (making.coord which.1).1) (omega arith) (omega arith)

at_node_short : (befalls : Node → Event) (m : Making) → ((at : Node) → IsShort (befalls at)) → IsShort (at_node befalls m).0
unfolding at_node
at_node_short befalls m all = all (making.node m).0

armed_short : (m : Making) → IsShort (armed m).0
unfolding armed
armed_short m = omega arith

checked_short : (m : Making) → IsShort (checked_or_armed m).0
unfolding checked_or_armed
checked_short m =
    let which = picked 2 m in
    short_if (which.0 == 0) (at_node event.Checkpoint which.1) (armed which.1) (at_node_short event.Checkpoint which.1 (λ at. omega arith)) (armed_short which.1)

chosen_short : (sent : List Message) (which : ℕ) (m : Making) → m.made ≤ 60000 → IsShort (chosen sent which m).0
chosen_short sent which m few =
    short_if (nat_lt which 12) _ _ (short_if (nat_lt (length m.window) 8) _ _ (begun_short m) (operated_short m few))
    (short_if (nat_lt which 47) _ _ (operated_short m few)
    (short_if (nat_lt which 55) _ _ (asked_short event.Commit m (λ t. omega arith))
    (short_if (nat_lt which 57) _ _ (asked_short event.Abort m (λ t. omega arith))
    (short_if (nat_lt which 85) _ _ (delivered_short sent m)
    (short_if (nat_lt which 91) _ _ (if_begun_short m _ (at_member_short event.Vote m (λ t j. omega arith)))
    (short_if (nat_lt which 93) _ _ (if_begun_short m _ (timer_short m))
    (short_if (nat_lt which 95) _ _ (if_begun_short m _ (at_member_short event.Ask m (λ t j. omega arith)))
    (short_if (which == 95) _ _ (if_begun_short m _ (at_coord_short event.Resend m (λ t j. omega arith)))
    (short_if (which == 96) _ _ (at_node_short event.Crash m (λ at. omega arith))
    (short_if (nat_lt which 99) _ _ (at_node_short event.Restart m (λ at. omega arith))
    (checked_short m)))))))))))

-- the next event of the first sixty thousand
pub next_short : (sent : List Message) (m : Making) → m.made < 60000 → IsShort (next_event sent m).0
next_short sent m few =
    let one : Making = record m { made = m.made + 1 } in
    let made = picked_made 100 one in
    chosen_short sent (picked 100 one).0 (picked 100 one).1 (omega (arith, made, few))
