-- A reader sees over one more line what it sees next.
use Rattle.std.proofs.Common.{◌≡◌, inl, inr, ℕ, zero, suc, ◌+◌, ◌==◌, ◌≤◌, ◌<◌, Bool, true, false, if◌then◌else◌, List, [], ◌∷◌, ◌++◌, length, Option, None, Some, refl, sym, ap, ◌∙◌, subst, arith}
use Rattle.std.proofs.lemmas.Bool.{eqb-true, eqb-false}
use Rattle.std.proofs.lemmas.List.{take-append-le}
use Rattle.std.proofs.Math.Seq.{take-length}
use Rattle.co_message.specs.declared.event.Event.{Event}
use Rattle.co_plain.specs.Federation.{Federation}
use Rattle.co_plain.specs.Runs.{run, lines}
use Rattle.co_top.specs.Sights.{state_behind, kind_at, is_up_at, rows_asked, HasCome, Sees, SeesIf, SeesFirst, SeesWhere, SeesAt, SeesHead, SeesHeadIf, SeesNext, SeesNextIf, IsAskIf, IsOwnIf}
use Rattle.co_top.specs.declared.reader.Ask.{Ask}
use Rattle.co_top.specs.declared.reader.Looked.{Looked}
use Rattle.co_top.specs.declared.reader.Looked.TheVariants as looked
use Rattle.co_top.proofs.Lists.{count_more, or_last}

-- ---- the reader comes

module _ (members : ℕ) (s0 : Federation) (es : List Event) (ask : Ask) (own : ask.member ≤ members) (z : Federation) where
  module _ (last : ask.line ≡ suc (length es)) (same : state_behind s0 es ask.line ≡ z) where
    come : HasCome members es ask
    come = record { member = own; line = omega (arith, last) }

    kind_is : kind_at (state_behind s0 es ask.line) ask.member ≡ kind_at z ask.member
    kind_is = ap (λ s. kind_at s ask.member) same

    up_is : is_up_at (state_behind s0 es ask.line) ask.member ≡ is_up_at z ask.member
    up_is = ap (λ s. is_up_at s ask.member) same

    sees_first : (seen : Looked) → SeesFirst z ask seen → Sees members s0 es ask seen
    sees_first looked.NoMember p = absurd p
    sees_first looked.Unopened p = absurd p
    sees_first looked.NotMv p = (come, λ is. p (sym kind_is ∙ is))
    sees_first looked.Down p = (come, kind_is ∙ p.0, up_is ∙ p.1)
    sees_first looked.Lost p = absurd p
    sees_first (looked.Rows rows) p = (
      come,
      kind_is ∙ p.0,
      (λ later from to. ap (λ n. is_up_at (state_behind s0 es n) ask.member) (let e : later ≡ ask.line = omega (arith, from, to, last) in e) ∙ up_is ∙ p.1),
      p.2 ∙ ap (λ s. rows_asked s ask) (sym same),
    )

  -- behind the last of these lines, which is not past its own
  pub sees_at : (number : ℕ) → number ≡ suc (length es) → number ≤ ask.line → state_behind s0 es number ≡ z → (seen : Looked) → SeesAt number z ask seen → Sees members s0 es ask seen
  sees_at number last to same seen = by (number == ask.line) refl
    where
      by : (b : Bool) → (number == ask.line) ≡ b → SeesWhere b z ask seen → Sees members s0 es ask seen
      by true e p = let at = eqb-true number ask.line e in sees_first (sym at ∙ last) (ap (state_behind s0 es) (sym at) ∙ same) seen p
      by false e p = let off = eqb-false number ask.line e in subst (Sees members s0 es ask) (sym p) (own, before off)
        where
          before : (number ≡ ask.line → ⊥) → suc (length es) < ask.line
          before off = omega (arith, last, to, off)

-- behind the head
pub sees_head : (members : ℕ) (s0 : Federation) (ask : Ask) (seen : Looked) → 1 ≤ ask.line → SeesHead members s0 ask seen → Sees members s0 [] ask seen
sees_head members s0 ask looked.NoMember to p = p
sees_head members s0 ask looked.Unopened to p = sees_at members s0 [] ask p.0 s0 1 refl to refl looked.Unopened p.1
sees_head members s0 ask looked.NotMv to p = sees_at members s0 [] ask p.0 s0 1 refl to refl looked.NotMv p.1
sees_head members s0 ask looked.Down to p = sees_at members s0 [] ask p.0 s0 1 refl to refl looked.Down p.1
sees_head members s0 ask looked.Lost to p = sees_at members s0 [] ask p.0 s0 1 refl to refl looked.Lost p.1
sees_head members s0 ask (looked.Rows rows) to p = sees_at members s0 [] ask p.0 s0 1 refl to refl (looked.Rows rows) p.1

pub sees_head_if : (members : ℕ) (s0 : Federation) (ask : Option Ask) (seen : Looked) → IsAskIf ask → SeesHeadIf members s0 ask seen → SeesIf members s0 [] ask seen
sees_head_if members s0 None seen is p = tt
sees_head_if members s0 (Some ask) seen is p = sees_head members s0 ask seen is.1 p

-- ---- one more line

module _ (s0 : Federation) (es : List Event) (e : Event) where
  -- the states behind the earlier lines stay
  behind_more : (number : ℕ) → number ≤ suc (length es) → state_behind s0 (es ++ e ∷ []) number ≡ state_behind s0 es number
  behind_more zero h = refl
  behind_more (suc done) h = ap (λ xs. run (lines xs) s0) (take-append-le done es (e ∷ []) (omega (arith, h)))

  behind_last : (number : ℕ) → number ≡ length es + 2 → state_behind s0 (es ++ e ∷ []) number ≡ run (lines (es ++ e ∷ [])) s0
  behind_last number is =
      ap (state_behind s0 (es ++ e ∷ [])) (let q : number ≡ suc (length (es ++ e ∷ [])) = omega (arith, is, count_more es e) in q)
      ∙ ap (λ xs. run (lines xs) s0) (take-length (es ++ e ∷ []))

  module _ (members : ℕ) (ask : Ask) (z : Federation) (leaves : run (lines (es ++ e ∷ [])) s0 ≡ z) (number : ℕ) (counted : number ≡ length es + 2) where
    more : HasCome members es ask → HasCome members (es ++ e ∷ []) ask
    more come = record { member = come.member; line = omega (arith, come.line, count_more es e) }

    kind_stays : HasCome members es ask → kind_at (state_behind s0 (es ++ e ∷ []) ask.line) ask.member ≡ kind_at (state_behind s0 es ask.line) ask.member
    kind_stays come = ap (λ s. kind_at s ask.member) (behind_more ask.line come.line)

    up_stays : (later : ℕ) → later ≤ suc (length es) → is_up_at (state_behind s0 (es ++ e ∷ []) later) ask.member ≡ is_up_at (state_behind s0 es later) ask.member
    up_stays later h = ap (λ s. is_up_at s ask.member) (behind_more later h)

    up_last : (later : ℕ) → later ≡ length es + 2 → is_up_at (state_behind s0 (es ++ e ∷ []) later) ask.member ≡ is_up_at z ask.member
    up_last later is = ap (λ s. is_up_at s ask.member) (behind_last later is ∙ leaves)

    pub sees_next : (before seen : Looked) → Sees members s0 es ask before → SeesNext number z ask before seen → Sees members s0 (es ++ e ∷ []) ask seen
    sees_next looked.NoMember seen h n = subst (Sees members s0 (es ++ e ∷ []) ask) (sym n) h
    sees_next looked.Unopened seen h n =
        sees_at members s0 (es ++ e ∷ []) ask h.0 z number (omega (arith, counted, count_more es e)) (omega (arith, counted, h.1)) (behind_last number counted ∙ leaves) seen n
    sees_next looked.NotMv seen h n = subst (Sees members s0 (es ++ e ∷ []) ask) (sym n) (more h.0, λ is. h.1 (sym (kind_stays h.0) ∙ is))
    sees_next looked.Down seen h n = subst (Sees members s0 (es ++ e ∷ []) ask) (sym n) (more h.0, kind_stays h.0 ∙ h.1, up_stays ask.line h.0.line ∙ h.2)
    sees_next looked.Lost seen h n =
        let l = h.3 in
        subst (Sees members s0 (es ++ e ∷ []) ask) (sym n)
        (more h.0, kind_stays h.0 ∙ h.1, up_stays ask.line h.0.line ∙ h.2, (l.0, l.1, omega (arith, l.2, count_more es e), up_stays l.0 l.2 ∙ l.3))
    sees_next (looked.Rows rows) seen h n = by (is_up_at z ask.member) refl
      where
        by : (b : Bool) → is_up_at z ask.member ≡ b → Sees members s0 (es ++ e ∷ []) ask seen
        by true up = subst (Sees members s0 (es ++ e ∷ []) ask) (sym (n ∙ ap (λ b. if b then looked.Rows rows else looked.Lost) up)) (
          more h.0,
          kind_stays h.0 ∙ h.1,
          (
              λ later from to.
              elim (or_last later (suc (length es)) (omega (arith, to, count_more es e))) as (λ c. is_up_at (state_behind s0 (es ++ e ∷ []) later) ask.member ≡ true) [
                | inl few ↦ up_stays later few ∙ h.2 later from few
                | inr last ↦ up_last later (omega (arith, last)) ∙ up
              ]
              ),
          h.3 ∙ ap (λ s. rows_asked s ask) (sym (behind_more ask.line h.0.line)),
        )
        by false down = subst (Sees members s0 (es ++ e ∷ []) ask) (sym (n ∙ ap (λ b. if b then looked.Rows rows else looked.Lost) down)) (
          more h.0,
          kind_stays h.0 ∙ h.1,
          up_stays ask.line h.0.line ∙ h.2 ask.line (omega arith) h.0.line,
          (number, omega (arith, h.0.line, counted), omega (arith, counted, count_more es e), up_last number counted ∙ down),
        )

pub sees_next_if : (s0 : Federation) (es : List Event) (e : Event) (members : ℕ) (ask : Option Ask) (z : Federation) → run (lines (es ++ e ∷ [])) s0 ≡ z → (number : ℕ) → number ≡ length es + 2 →
    (before seen : Looked) → SeesIf members s0 es ask before → SeesNextIf number z ask before seen → SeesIf members s0 (es ++ e ∷ []) ask seen
sees_next_if s0 es e members None z leaves number counted before seen h n = tt
sees_next_if s0 es e members (Some ask) z leaves number counted before seen h n = sees_next s0 es e members ask z leaves number counted before seen h n

-- a member that the reader has not found missing is one of the federation's
own_of : (members : ℕ) (s0 : Federation) (es : List Event) (ask : Ask) (seen : Looked) → Sees members s0 es ask seen → (seen ≡ looked.NoMember → ⊥) → ask.member ≤ members
own_of members s0 es ask looked.NoMember h n = absurd (n refl)
own_of members s0 es ask looked.Unopened h n = h.0
own_of members s0 es ask looked.NotMv h n = h.0.member
own_of members s0 es ask looked.Down h n = h.0.member
own_of members s0 es ask looked.Lost h n = h.0.member
own_of members s0 es ask (looked.Rows rows) h n = h.0.member

pub own_if : (members : ℕ) (s0 : Federation) (es : List Event) (ask : Option Ask) (seen : Looked) → SeesIf members s0 es ask seen → IsOwnIf members ask seen
own_if members s0 es None seen h = tt
own_if members s0 es (Some ask) seen h = own_of members s0 es ask seen h
