-- Turns one behind another: what happens, how it is told, and with which numbers.
use Rattle.std.proofs.Common.{◌≡◌, ℕ, zero, suc, ◌≤◌, ◌+◌, Bool, true, false, if◌then◌else◌, List, [], ◌∷◌, ◌++◌, length, get_or, refl, sym, ap, ◌∙◌, append_assoc, append-nil, arith}
use Rattle.co_cluster.specs.declared.doubting.Doubt.{Doubt}
use Rattle.co_coop.specs.Consulted.{consultation_of, told_of_doubt}
use Rattle.co_coop.specs.Resolution.{resolution}
use Rattle.co_coop.specs.Turn.{is_verdict, others_to, asked_in_turn, doubt_turn}
use Rattle.co_coop.proofs.Resolving.{run_behind}
use Rattle.co_law_coop.specs.Consulting.{told_event, items_told, number_after, transcript_along, letting_go, done_for}
use Rattle.co_law_coop.specs.declared.told.Told.{Told}
use Rattle.co_law_coop.specs.declared.told.Told.TheVariants as told
use Rattle.co_message.specs.declared.item.Item.{Item}
use Rattle.co_message.specs.declared.item.ItemKind.{ItemKind}
use Rattle.co_plain.specs.Federation.{Federation}
use Rattle.co_plain.specs.MemberStep.{standing_of}
use Rattle.co_plain.specs.Runs.{run, numbered}
use Rattle.co_plain.specs.Step.{step}
use Rattle.co_plain.specs.declared.happening.Happening.{Happening}
use Rattle.co_plain.specs.declared.happening.Happening.TheVariants as happening
use Rattle.co_plain.specs.declared.member_state.MemberState.{MemberState}
use Rattle.co_plain.specs.declared.standing.Standing.{Standing}
use Rattle.co_plain.specs.declared.standing.Standing.TheVariants.{IsActive, IsVoted, IsInstalled, IsAbsent}
use Rattle.co_replay.specs.Transcript.{items_text}
use Rattle.co_replay.proofs.Appended.{items_text-append}
use Rattle.co_top.specs.Resolving.{turns_text}
use Rattle.co_top.specs.Turns.{number_along, last_number, turn_text}

-- ---- happenings behind happenings

pub along_more : (number : ℕ) (hs more : List Happening) (s : Federation) →
    transcript_along number (hs ++ more) s ≡ transcript_along number hs s ++ transcript_along (number_along number hs s) more (run hs s)
along_more number [] more s = refl
along_more number (h ∷ hs) more s =
    let next = number_after number (told_event s h) in
    let z = (step s h).state in
    let one : List Item = items_told number (told_event s h) (step s h) in
    ap (λ (xs : List Item). one ++ xs) (along_more next hs more z)
    ∙ sym (append_assoc one (transcript_along next hs z) (transcript_along (number_along next hs z) more (run hs z)))

pub numbers_more : (number : ℕ) (hs more : List Happening) (s : Federation) → number_along number (hs ++ more) s ≡ number_along (number_along number hs s) more (run hs s)
numbers_more number [] more s = refl
numbers_more number (h ∷ hs) more s = numbers_more (number_after number (told_event s h)) hs more (step s h).state

-- ---- the number of the last item

skip_numbered : (n : ℕ) (xs : List ItemKind) (rest : List Item) → last_number n (numbered n xs ++ rest) ≡ last_number n rest
skip_numbered n [] rest = refl
skip_numbered n (x ∷ xs) rest = skip_numbered n xs rest

pub last_along : (n number : ℕ) (hs : List Happening) (s : Federation) → suc number ≡ n → suc (last_number number (transcript_along n hs s)) ≡ number_along n hs s
last_along n number [] s is = is
last_along n number (happening.Line e ∷ hs) s is =
    let z = (step s (happening.Line e)).state in
    ap suc (skip_numbered n (step s (happening.Line e)).items (transcript_along (suc n) hs z)) ∙ last_along (suc n) n hs z refl
last_along n number (happening.Hand t m commit ∷ hs) s is =
    let z = (step s (happening.Hand t m commit)).state in
    ap suc (skip_numbered n (step s (happening.Hand t m commit)).items (transcript_along (suc n) hs z)) ∙ last_along (suc n) n hs z refl
last_along n number (happening.Disarm ∷ hs) s is = last_along n number hs (step s happening.Disarm).state is

pub last_is : (number i : ℕ) (xs : List Item) (x : Item) → suc i ≡ length xs → (get_or xs i x).number ≡ last_number number xs
last_is number i [] x is = absurd (omega (arith, is))
last_is number zero (y ∷ []) x is = refl
last_is number zero (y ∷ z ∷ xs) x is = absurd (omega (arith, is))
last_is number (suc i) (y ∷ xs) x is = last_is y.number i xs x (omega (arith, is))

-- ---- how far the numbers rise

along_few : (n : ℕ) (hs : List Happening) (s : Federation) → number_along n hs s ≤ n + length hs
along_few n [] s = omega arith
along_few n (happening.Line e ∷ hs) s = let few : number_along n (happening.Line e ∷ hs) s ≤ suc n + length hs = along_few (suc n) hs (step s (happening.Line e)).state in omega (arith, few)
along_few n (happening.Hand t m commit ∷ hs) s = let few : number_along n (happening.Hand t m commit ∷ hs) s ≤ suc n + length hs = along_few (suc n) hs (step s (happening.Hand t m commit)).state in omega (arith, few)
along_few n (happening.Disarm ∷ hs) s = let few : number_along n (happening.Disarm ∷ hs) s ≤ n + length hs = along_few n hs (step s happening.Disarm).state in omega (arith, few)

letting_few : (st : Standing) (t m other : ℕ) → length (letting_go st t other ++ happening.Hand t m false ∷ []) ≤ 2
letting_few IsActive t m other = omega arith
letting_few IsVoted t m other = omega arith
letting_few IsInstalled t m other = omega arith
letting_few IsAbsent t m other = omega arith

done_few : (x : Told) (y : MemberState) (t m other : ℕ) → length (done_for x y t m other) ≤ 2
done_few told.Commit y t m other = omega arith
done_few told.Abort y t m other = letting_few (standing_of y t) t m other
done_few told.Settled y t m other = omega arith
done_few told.Down y t m other = omega arith
done_few told.InDoubt y t m other = omega arith
done_few told.Stranger y t m other = omega arith
done_few told.Reachable y t m other = omega arith

asked_few : (s : Federation) (doubt : Doubt) (others : List ℕ) → length (asked_in_turn s doubt others) ≤ 2
asked_few s doubt [] = omega arith
asked_few s doubt (other ∷ others) = by (asked_few s doubt others) (is_verdict (told_of_doubt s doubt other))
  where
    by : length (asked_in_turn s doubt others) ≤ 2 → (v : Bool) → length (if v then consultation_of s doubt other else asked_in_turn s doubt others) ≤ 2
    by rest true = done_few (told_of_doubt s doubt other) (s.member other) doubt.txn doubt.member other
    by rest false = rest

-- a turn has two events at most
pub turn_few : (number last : ℕ) (s : Federation) (doubt : Doubt) → suc last ≡ number_along (suc number) (doubt_turn s doubt) s → last ≤ number + 2
turn_few number last s doubt is =
    let few = along_few (suc number) (doubt_turn s doubt) s in
    let two = asked_few s doubt (others_to (length s.kinds) doubt.member) in
    omega (arith, is, few, two)

-- ---- one more turn

pub resolution_more : (s : Federation) (turns : List Doubt) (next : Doubt) → resolution s (turns ++ next ∷ []) ≡ resolution s turns ++ doubt_turn (run (resolution s turns) s) next
resolution_more s [] next = append-nil (doubt_turn s next)
resolution_more s (x ∷ turns) next =
    let turn = doubt_turn s x in
    let z = run turn s in
    let rest = resolution z turns in
    ap (λ (hs : List Happening). turn ++ hs) (resolution_more z turns next)
    ∙ sym (append_assoc turn rest (doubt_turn (run rest z) next))
    ∙ ap (λ w. (turn ++ rest) ++ doubt_turn w next) (sym (run_behind turn rest s))

module _ (s : Federation) (number last : ℕ) (turns : List Doubt) (next : Doubt) where
  abbrev pub z : Federation
  z = run (resolution s turns) s

  pub state_more : run (resolution s (turns ++ next ∷ [])) s ≡ run (doubt_turn z next) z
  state_more = ap (λ (hs : List Happening). run hs s) (resolution_more s turns next) ∙ run_behind (resolution s turns) (doubt_turn z next) s

  pub number_more : number_along (suc number) (resolution s (turns ++ next ∷ [])) s ≡ number_along (number_along (suc number) (resolution s turns) s) (doubt_turn z next) z
  number_more = ap (λ (hs : List Happening). number_along (suc number) hs s) (resolution_more s turns next) ∙ numbers_more (suc number) (resolution s turns) (doubt_turn z next) s

  pub text_more : suc last ≡ number_along (suc number) (resolution s turns) s → turns_text number s (turns ++ next ∷ []) ≡ turns_text number s turns ++ turn_text last z next
  text_more counted =
      ap (λ (hs : List Happening). items_text (transcript_along (suc number) hs s)) (resolution_more s turns next)
      ∙ ap items_text (along_more (suc number) (resolution s turns) (doubt_turn z next) s)
      ∙ items_text-append (transcript_along (suc number) (resolution s turns) s) (transcript_along (number_along (suc number) (resolution s turns) s) (doubt_turn z next) z)
      ∙ ap (λ n. turns_text number s turns ++ items_text (transcript_along n (doubt_turn z next) z)) (sym counted)
