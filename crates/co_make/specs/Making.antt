-- The schedule of a trial, made from a number: every choice is a word of a permuted congruential generator (O'Neill, "PCG: a family of
-- simple fast space-efficient statistically good algorithms for random number generation", 2014), taken modulo the number of choices.
use Rattle.std.specs.Prelude.{ℕ, ◌≤◌, ◌≡◌, ◌+◌, ◌-◌, ◌/◌, ◌%◌, ◌==◌, nat_lt, min, List, [], ◌∷◌, ◌++◌, length, reverse, get_or, remove, decimal, if◌then◌else◌, refl}
use Rattle.std.specs.Coded.{Coded, code_by, coded×, coded_ℕ, coded_list}
use Rattle.rand_pcg.specs.Lcg.{Lcg, started, increment_of}
use Rattle.rand_pcg.specs.Pcg.{multiplier_64, pcg32}
use Rattle.co_base.specs.declared.leaves.Leaves.{Leaves}
use Rattle.co_base.specs.declared.leaves.Leaves.TheVariants as leaves
use Rattle.co_base.specs.declared.node.Node.{Node}
use Rattle.co_base.specs.declared.node.Node.TheVariants.{Member, Coord}
use Rattle.co_message.specs.declared.event.Event.{Event}
use Rattle.co_message.specs.declared.event.Event.TheVariants as event
use Rattle.co_message.specs.declared.message.Message.{Message}

-- What the maker knows: its generator, how many events it made, the least number that it has not begun, and the numbers
-- that it began and has not asked to end, in the order of their begin.
pub record Making : Type 0 where
  pub generator : Lcg
  pub made : ℕ
  pub fresh : ℕ
  pub window : List ℕ

abbrev pub making_code : Coded Making
making_code =
    code_by ((ℕ × ℕ) × (ℕ × (ℕ × List ℕ))) (coded× (coded× coded_ℕ coded_ℕ) (coded× coded_ℕ (coded× coded_ℕ (coded_list coded_ℕ))))
    (λ m. ((m.generator.state, m.generator.increment), (m.made, (m.fresh, m.window))))
    (λ p. record { generator = record { state = p.0.0; increment = p.0.1 }; made = p.1.0; fresh = p.1.1.0; window = p.1.1.1 }) (λ _. refl)

-- at the start of the trial with this number
abbrev pub making_of : ℕ → Making
making_of number = record { generator = started 64 multiplier_64 number (increment_of 64 54); made = 0; fresh = 1; window = [] }

-- one of so many choices
unfoldable pub picked : ℕ → Making → ℕ × Making
picked count m = ((pcg32 m.generator).0 % count, record m { generator = (pcg32 m.generator).1 })

-- a member of the three, a coordinator of the two, a node of these five
unfoldable pub member : Making → ℕ × Making
member m = (1 + (picked 3 m).0, (picked 3 m).1)

unfoldable pub coord : Making → ℕ × Making
coord m = (1 + (picked 2 m).0, (picked 2 m).1)

abbrev pub node_at : ℕ → Node
node_at place = if nat_lt place 3 then Member (place + 1) else Coord (place - 2)

unfoldable pub node : Making → Node × Making
node m = (node_at (picked 5 m).0, (picked 5 m).1)

-- one of the last sixteen numbers that were begun
unfoldable pub recent : Making → ℕ × Making
recent m = let back = picked (min (m.fresh - 1) 16) m in (m.fresh - 1 - back.0, back.1)

-- ---- what clients do

unfoldable pub begun : Making → Event × Making
begun m = let c = coord m in (event.Begin m.fresh c.0, record c.1 { fresh = m.fresh + 1; window = m.window ++ (m.fresh ∷ []) })

-- `k00` to `k19`
abbrev pub key_text : ℕ → List ℕ
key_text number = 107 ∷ (48 + number / 10) ∷ (48 + number % 10) ∷ []

-- `v` and the number of the event
abbrev pub value_text : ℕ → List ℕ
value_text number = 118 ∷ decimal number

-- half of the operations are reads, three tenths are writes
abbrev pub operation : ℕ → ℕ → ℕ → List ℕ → ℕ → Event
operation number t at key which =
    if nat_lt which 5 then event.Read t at key
    else if nat_lt which 8 then event.Write t at key (value_text number)
    else if which == 8 then event.Erase t at key
    else event.Scan t at (record { lo = key; hi = key_text 19 })

unfoldable pub operated_in : Making → Event × Making
operated_in m =
    let place = picked (length m.window) m in
    let at = member place.1 in
    let key = picked 20 at.1 in
    let which = picked 10 key.1 in
    (operation (m.made + 1) (get_or m.window place.0 0) at.0 (key_text key.0) which.0, which.1)

abbrev pub operated : Making → Event × Making
operated m = if length m.window == 0 then begun m else operated_in m

-- a transaction is asked to end, and leaves the window
unfoldable pub taken : Making → ℕ × Making
taken m = let place = picked (length m.window) m in (get_or m.window place.0 0, record place.1 { window = remove m.window place.0 })

abbrev pub asked : (ℕ → Event) → Making → Event × Making
asked ends m = let t = taken m in if length m.window == 0 then begun m else (ends t.0, t.1)

-- ---- what the network and the clocks do

-- any message that was sent, or one of the last sixteen
unfoldable pub place_of : ℕ → Making → ℕ × Making
place_of count m =
    let which = picked 2 m in
    let back = picked (min count 16) which.1 in
    if which.0 == 0 then picked count which.1 else (count - 1 - back.0, back.1)

unfoldable pub delivered : List Message → Making → Event × Making
delivered [] m = begun m
delivered (last ∷ others) m =
    let place = place_of (length (last ∷ others)) m in
    (event.Deliver (get_or (reverse (last ∷ others)) place.0 last), place.1)

-- something that happens to a recent transaction at a member, or at a coordinator; where none was begun, one begins
unfoldable pub at_member : (ℕ → ℕ → Event) → Making → Event × Making
at_member happens m = let t = recent m in let at = member t.1 in (happens t.0 at.0, at.1)

unfoldable pub at_coord : (ℕ → ℕ → Event) → Making → Event × Making
at_coord happens m = let t = recent m in let at = coord t.1 in (happens t.0 at.0, at.1)

unfoldable pub timer_fired : Making → Event × Making
timer_fired m =
    let t = recent m in
    let which = picked 2 t.1 in
    let here = member which.1 in
    let there = coord which.1 in
    if which.0 == 0 then (event.Timer t.0 (Member here.0), here.1) else (event.Timer t.0 (Coord there.0), there.1)

abbrev pub if_begun : Making → Event × Making → Event × Making
if_begun m happens = if m.fresh == 1 then begun m else happens

-- ---- what befalls nodes

unfoldable pub at_node : (Node → Event) → Making → Event × Making
at_node befalls m = let at = node m in (befalls at.0, at.1)

-- which image is left: that before the write, that after it, or the one byte
unfoldable pub left : Making → Leaves × Making
left m =
    let which = picked 3 m in
    let byte = picked 256 which.1 in
    if which.0 == 0 then (leaves.Old, which.1)
    else if which.0 == 1 then (leaves.New, which.1)
    else (leaves.Filled (byte.0 ∷ []), byte.1)

unfoldable pub armed : Making → Event × Making
armed m =
    let at = node m in
    let call = picked 4 at.1 in
    let image = left call.1 in
    (event.Arm at.0 (1 + call.0) image.0, image.1)

unfoldable pub checked_or_armed : Making → Event × Making
checked_or_armed m = let which = picked 2 m in if which.0 == 0 then at_node event.Checkpoint which.1 else armed which.1

-- ---- the next event

abbrev pub chosen : List Message → ℕ → Making → Event × Making
chosen sent which m =
    if nat_lt which 12 then (if nat_lt (length m.window) 8 then begun m else operated m)
    else if nat_lt which 47 then operated m
    else if nat_lt which 55 then asked event.Commit m
    else if nat_lt which 57 then asked event.Abort m
    else if nat_lt which 85 then delivered sent m
    else if nat_lt which 91 then if_begun m (at_member event.Vote m)
    else if nat_lt which 93 then if_begun m (timer_fired m)
    else if nat_lt which 95 then if_begun m (at_member event.Ask m)
    else if which == 95 then if_begun m (at_coord event.Resend m)
    else if which == 96 then at_node event.Crash m
    else if nat_lt which 99 then at_node event.Restart m
    else checked_or_armed m

-- the event is counted first, so that its number is one more than the count: the head of the schedule has the number 1
abbrev pub next_event : List Message → Making → Event × Making
next_event sent m = let which = picked 100 (record m { made = m.made + 1 }) in chosen sent which.0 which.1

-- No more transactions were begun than events were made, and no more stand in the window.
pub record IsWithin (m : Making) : Type 0 where
  pub first : 1 ≤ m.fresh
  pub begun : m.fresh ≤ m.made + 1
  pub window : length m.window ≤ m.made

-- a choice takes words of the generator, and nothing else changes
pub record HasChosen (old new : Making) : Type 0 where
  pub made : new.made ≡ old.made
  pub fresh : new.fresh ≡ old.fresh
  pub window : new.window ≡ old.window
