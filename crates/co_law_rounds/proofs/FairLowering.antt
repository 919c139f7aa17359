-- A fair round lowers what is left.
use Rattle.std.proofs.Common.{◌≡◌, ◌⊎◌, inl, inr, ℕ, Bool, true, false, not, ◌≤◌, List, [], ◌∷◌, ◌++◌, Option, None, Some, refl, sym, ◌∙◌, subst, arith}
use Rattle.std.specs.Option.{is_some}
use Rattle.std.proofs.lemmas.Bool.{and_parts}
use Rattle.co_message.specs.declared.event.Event.{Event}
use Rattle.co_message.specs.declared.event.Event.TheVariants as event
use Rattle.co_state.specs.Table.{look, holds}
use Rattle.co_plain.specs.declared.coord_state.Entry.{Entry}
use Rattle.co_plain.specs.declared.member_state.AskedMark.{AskedMark}
use Rattle.co_plain.specs.Invariants.{Memory, view}
use Rattle.co_plain.specs.Federation.{Federation}
use Rattle.co_plain.specs.MemberStep.{standing_by}
use Rattle.co_plain.specs.Quiet.{InTable, ActiveAt, VotedAt, Exchange, Prepares, Votes, Commits, Asks, IsEnabled, may_be_asked, free_where_asked, lacks_yes, lacks_ack}
use Rattle.co_plain.specs.Settling.{SettlesBy, ByRestart, ByExchange, ByTimer}
use Rattle.co_law_base.proofs.Carrying.{votes_held}
use Rattle.co_law_settle.specs.SettlingTurns.{Fires, SomethingOpen}
use Rattle.co_law_settle.specs.SettlingMeasure.{weight}
use Rattle.co_law_settle.proofs.First.{settles_by}
use Rattle.co_law_rounds.specs.CanBeSettled.{MakeThemselves}
use Rattle.co_law_rounds.specs.FairRounds.{Stands, DeliverTheirOwn, OneEnds, GoesThrough, IsFairRound}
use Rattle.co_law_rounds.proofs.Acknowledging.{commit_resent}
use Rattle.co_law_rounds.proofs.Asking.{question_comes}
use Rattle.co_law_rounds.proofs.Disturbances.{onward_all}
use Rattle.co_law_rounds.proofs.Fairly.{round_done}
use Rattle.co_law_rounds.proofs.Following.{Good, Fell}
use Rattle.co_law_rounds.proofs.LackingVotes.{resend_comes}
use Rattle.co_law_rounds.proofs.Trying.{vote_tried}
use Rattle.co_law_rounds.proofs.UnaskedOnes.{by_three, asks_comes}

stands_behind : (x : Event) (first rest : List Event) → Stands x rest → Stands x (first ++ rest)
stands_behind x [] rest h = h
stands_behind x (e ∷ es) rest h = inr (stands_behind x es rest h)

made_before : (xs ys : List Event) → MakeThemselves (xs ++ ys) → MakeThemselves xs
made_before [] ys h = tt
made_before (x ∷ xs) ys h = (h.0, made_before xs ys h.1)

made_behind : (xs : List Event) (y : Event) (ys : List Event) → MakeThemselves (xs ++ (y ∷ ys)) → MakeThemselves ys
made_behind [] y ys h = h.1
made_behind (x ∷ xs) y ys h = made_behind xs y ys h.1

-- who may be asked, and is not active and unasked, is not active
asked_inactive : (a k v d : Bool) → weight a k v false false ≤ 2 → may_be_asked (standing_by a v d) k ≡ true → a ≡ false
asked_inactive false k v d h l = refl
asked_inactive true true v d h l = absurd (let z : false ≡ true = l in cc)
asked_inactive true false v d h l = absurd (omega (arith, h))

lacks_some : (o : Option Entry) (m : ℕ) → lacks_yes o m ≡ true → is_some o ≡ true
lacks_some None m h = h
lacks_some (Some e) m h = refl

acks_some : (o : Option Entry) (m : ℕ) → lacks_ack o m ≡ true → is_some o ≡ true
acks_some None m h = h
acks_some (Some e) m h = refl

none_there : (o : Option Entry) → not (is_some o) ≡ true → o ≡ None
none_there None e = refl
none_there (Some x) e = absurd (let z : false ≡ true = e in cc)

module _ (pairs : ℕ → List ℕ) (numbers : List ℕ) (s : Federation) (g : Good pairs numbers s) where
  module _ (events : List Event) (r : GoesThrough s events) (made : MakeThemselves events) where
    own : MakeThemselves (r.first ++ r.rest)
    own = subst MakeThemselves r.same made

    delivered : DeliverTheirOwn (r.first ++ r.rest) s
    delivered = subst (λ es. DeliverTheirOwn es s) r.same r.delivered

    exchanged : (e : Exchange) → IsEnabled s e → Fell pairs numbers (r.first ++ r.rest) s
    exchanged (Prepares t m c) h = by (by_three (holds (s.member m).engine.active t) (holds (s.member m).asked t) (holds (s.member m).engine.voted t))
      where
        lacks : lacks_yes (look (s.coord c).table t) m ≡ true
        lacks = (and_parts _ _ h.2).0

        stands : Stands (event.Resend t c) (r.first ++ r.rest)
        stands = stands_behind (event.Resend t c) r.first r.rest (r.resent t c (InTable c h.1 (lacks_some (look (s.coord c).table t) m lacks)) h.1)

        by : (weight (holds (s.member m).engine.active t) (holds (s.member m).asked t) (holds (s.member m).engine.voted t) false false ≡ 3)
            ⊎ (weight (holds (s.member m).engine.active t) (holds (s.member m).asked t) (holds (s.member m).engine.voted t) false false ≤ 2) → Fell pairs numbers (r.first ++ r.rest) s
        by (inl three) = asks_comes pairs numbers t m c (r.first ++ r.rest) s g own delivered stands (record { unasked = record { member = h.0; three = three }; coord = h.1; lacks = lacks })
        by (inr two) =
            resend_comes pairs numbers t m c (r.first ++ r.rest) s g own delivered stands (record {
              member = h.0;
              coord = h.1;
              inactive = asked_inactive (holds (s.member m).engine.active t) (holds (s.member m).asked t) (holds (s.member m).engine.voted t) (holds (s.member m).committed t) two (and_parts _ _ h.2).1;
              lacks = lacks;
            })
    exchanged (Votes t m) h = by (look (s.member m).asked t) refl (and_parts _ _ h.1).1
      where
        active : holds (s.member m).engine.active t ≡ true
        active = (and_parts _ _ h.1).0

        by : (o : Option AskedMark) → look (s.member m).asked t ≡ o → free_where_asked (s.member m).engine t o ≡ true → Fell pairs numbers (r.first ++ r.rest) s
        by None e f = absurd (let z : false ≡ true = f in cc)
        by (Some mark) e f =
            vote_tried pairs numbers t m mark r.first r.rest s g r.votes own delivered (r.voted t m (ActiveAt m h.0 active) h.0) h.0 (record { active = active; asked = e; free = f })
    exchanged (Commits t m c) h =
        commit_resent pairs numbers t m c (r.first ++ r.rest) s g own delivered
        (stands_behind (event.Resend t c) r.first r.rest (r.resent t c (InTable c h.1 (acks_some (look (s.coord c).table t) m h.2)) h.1))
        (record { member = h.0; coord = h.1; lacks = h.2 })
    exchanged (Asks t m c) h =
        let p = and_parts _ _ h.2 in
        let voted = votes_held (view Memory (s.member m)) t c p.0 in
        question_comes pairs numbers t m c (r.first ++ r.rest) s g own delivered
        (stands_behind (event.Ask t m) r.first r.rest (r.asked t m (VotedAt m h.0 voted) h.0))
        (record { member = h.0; coord = h.1; voted = voted; gone = none_there (look (s.coord c).table t) p.1; home = inl (((g.calm.facts.members m).views Memory).named t c p.0) })

  -- the timer of a quiet state
  timed : (events : List Event) → MakeThemselves events → OneEnds events s → Fell pairs numbers events s
  timed events own x =
      (round_done pairs numbers s events g.calm g.counted (record {
        before = x.before;
        turn = Fires x.txn x.at;
        after = x.after;
        own_before = before;
        own_after = made_behind x.before (event.Timer x.txn x.at) x.after made;
        helps = ((onward_all x.before s g.calm before).up g.up, x.is_node, x.ends);
        no_restart = refl;
        same = x.same;
      })).lower
    where
      made : MakeThemselves (x.before ++ (event.Timer x.txn x.at ∷ x.after))
      made = subst MakeThemselves x.same own

      before : MakeThemselves x.before
      before = made_before x.before (event.Timer x.txn x.at ∷ x.after) made

  pub fair_lowers : (events : List Event) → IsFairRound s events → SomethingOpen s → Fell pairs numbers events s
  fair_lowers events r o = by (settles_by s g.calm.facts g.calm.sessions g.calm.opened o.0 o.1)
    where
      by : SettlesBy s → Fell pairs numbers events s
      by (ByRestart at first) = absurd (let z : true ≡ false = sym (g.up at first.is_node) ∙ first.down in cc)
      by (ByExchange e up first) =
          let through = r.through (λ q. q.nothing_helps e first.enabled) in
          subst (λ es. Fell pairs numbers es s) (sym through.same) (exchanged events through r.own e first.enabled)
      by (ByTimer t at quiet first) = timed events r.own (r.timer quiet o)
