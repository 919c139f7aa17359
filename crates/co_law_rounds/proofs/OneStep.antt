-- What one event leaves: weights at each member that do not grow, no new lack of a yes, and a lack of an acknowledgement only where a
-- vote stands; what was sent stays sent.
use Rattle.std.proofs.Common.{◌≡◌, ◌⊎◌, inl, ℕ, Bool, true, false, ◌||◌, ◌==◌, ◌≤◌, List, [], ◌∷◌, sym, ap, ◌∙◌, refl, subst, arith}
use Rattle.std.proofs.lemmas.Bool.{eqb-true, eqb-false}
use Rattle.co_state.specs.Table.{look, holds}
use Rattle.co_plain.specs.declared.coord_step.CoordStep.{CoordStep}
use Rattle.co_plain.specs.declared.member_step.MemberStep.{MemberStep}
use Rattle.co_message.specs.declared.message.Message.{Message}
use Rattle.co_plain.specs.Wire.{was_sent, send_one, send_all}
use Rattle.co_plain.specs.Federation.{Federation, at_member, at_coord, message_list}
use Rattle.co_plain.specs.Quiet.{lacks_yes, lacks_ack}
use Rattle.co_law_base.proofs.Carrying.{at_each}
use Rattle.co_law_base.proofs.Sending.{sent_still}
use Rattle.co_law_settle.specs.SettlingMeasure.{weight_at}
use Rattle.co_law_settle.proofs.Falling.{MemberFalls, CoordFalls}
use Rattle.co_law_settle.proofs.Homes.{Homes}

pub record OneStep (s z : Federation) : Type 0 where
  pub weights : (m t : ℕ) (a b : Bool) → weight_at (z.member m) t a b ≤ weight_at (s.member m) t a b
  pub yeses : (c t m : ℕ) → lacks_yes (look (z.coord c).table t) m ≡ true → lacks_yes (look (s.coord c).table t) m ≡ true
  pub acks : (c t m : ℕ) → lacks_ack (look (z.coord c).table t) m ≡ true →
      (lacks_ack (look (s.coord c).table t) m ≡ true) ⊎ ((holds (s.member m).engine.active t || holds (s.member m).engine.voted t) ≡ true)
  pub sent : (note : Message) → was_sent s.sent note ≡ true → was_sent z.sent note ≡ true
  pub homes : (t c : ℕ) → Homes s t c → Homes z t c

pub all_still : (sent notes : List Message) (note : Message) → was_sent sent note ≡ true → was_sent (send_all sent notes) note ≡ true
all_still sent [] note h = h
all_still sent (n ∷ ns) note h = all_still (send_one sent n) ns note (sent_still sent n note h)

pub one_same : (s : Federation) → OneStep s s
one_same s = record { weights = λ m t a b. omega arith; yeses = λ c t m h. h; acks = λ c t m h. inl h; sent = λ note h. h; homes = λ t c h. h }

pub one_member : (s : Federation) (m t : ℕ) (did : MemberStep) → MemberFalls t (s.member m) did.state → OneStep s (at_member s m did).state
one_member s m t did f = record { weights = weights; yeses = λ c u j h. h; acks = λ c u j h. inl h; sent = λ note h. all_still s.sent (message_list did.sent) note h; homes = λ u c h. h }
  where
    same : (u : ℕ) (a b : Bool) → (z : Bool) → (t == u) ≡ z → weight_at did.state u a b ≤ weight_at (s.member m) u a b
    same u a b true e = subst (λ k. weight_at did.state k a b ≤ weight_at (s.member m) k a b) (eqb-true t u e) (f.falls a b)
    same u a b false e = let q = f.others u (eqb-false t u e) a b in omega (arith, q)

    weights : (j u : ℕ) (a b : Bool) → weight_at ((at_member s m did).state.member j) u a b ≤ weight_at (s.member j) u a b
    weights = at_each (λ j x. (u : ℕ) (a b : Bool) → weight_at x u a b ≤ weight_at (s.member j) u a b) s.member m did.state
        (λ u a b. same u a b (t == u) refl) (λ j u a b. omega arith)

pub one_coord : (s : Federation) (c t : ℕ) (did : CoordStep) → CoordFalls s t (s.coord c) did.state → OneStep s (at_coord s c did).state
one_coord s c t did f = record { weights = λ m u a b. omega arith; yeses = yeses; acks = acks; sent = λ note h. all_still s.sent did.sent note h; homes = λ u d h. h }
  where
    yeses : (d u j : ℕ) → lacks_yes (look ((at_coord s c did).state.coord d).table u) j ≡ true → lacks_yes (look (s.coord d).table u) j ≡ true
    yeses = at_each (λ d y. (u j : ℕ) → lacks_yes (look y.table u) j ≡ true → lacks_yes (look (s.coord d).table u) j ≡ true) s.coord c did.state
        (λ u j. by u j (t == u) refl) (λ d u j h. h)
      where
        by : (u j : ℕ) (b : Bool) → (t == u) ≡ b → lacks_yes (look did.state.table u) j ≡ true → lacks_yes (look (s.coord c).table u) j ≡ true
        by u j true e h = subst (λ v. lacks_yes (look (s.coord c).table v) j ≡ true) (eqb-true t u e) (f.votes j (subst (λ v. lacks_yes (look did.state.table v) j ≡ true) (sym (eqb-true t u e)) h))
        by u j false e h = ap (λ o. lacks_yes o j) (sym (f.others u (eqb-false t u e))) ∙ h

    Stood : ℕ → ℕ → ℕ → Type 0
    Stood d u j = (lacks_ack (look (s.coord d).table u) j ≡ true) ⊎ ((holds (s.member j).engine.active u || holds (s.member j).engine.voted u) ≡ true)

    acks : (d u j : ℕ) → lacks_ack (look ((at_coord s c did).state.coord d).table u) j ≡ true → Stood d u j
    acks = at_each (λ d y. (u j : ℕ) → lacks_ack (look y.table u) j ≡ true → Stood d u j) s.coord c did.state
        (λ u j. by u j (t == u) refl) (λ d u j h. inl h)
      where
        by : (u j : ℕ) (b : Bool) → (t == u) ≡ b → lacks_ack (look did.state.table u) j ≡ true → Stood c u j
        by u j true e h = subst (λ v. Stood c v j) (eqb-true t u e) (f.acks j (subst (λ v. lacks_ack (look did.state.table v) j ≡ true) (sym (eqb-true t u e)) h))
        by u j false e h = inl (ap (λ o. lacks_ack o j) (sym (f.others u (eqb-false t u e))) ∙ h)
