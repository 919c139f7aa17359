-- Which exchange is the first that can help.
use Rattle.std.proofs.Common.{◌≡◌, ◌≢◌, ◌⊎◌, inl, inr, ℕ, ◌<◌, Bool, true, false, Option, None, Some, refl, sym, ap, ◌∙◌, subst, arith}
use Rattle.std.specs.Prelude.{MatchOption, is_some}
use Rattle.co_plain.specs.Federation.{Federation}
use Rattle.co_plain.specs.Quiet.{IsMember, IsCoordinator, IsEnabled, Prepares, Votes, Commits, Asks}
use Rattle.co_plain.specs.Quiet as plain
use Rattle.co_plain.specs.Settling.{exchange_txn, exchange_rank, exchange_member}
use Rattle.co_cluster.specs.Readings.{exchange_as, exchange_of, helps, IsFirstOf}
use Rattle.co_cluster.specs.declared.exchanges.Exchange.{Exchange}
use Rattle.co_cluster.specs.declared.exchanges.ExchangeKind.{ExchangeKind}
use Rattle.co_cluster.specs.declared.exchanges.ExchangeKind.TheVariants as kind

-- ---- exchanges by their parts

abbrev kind_of : plain.Exchange → ExchangeKind
kind_of (Prepares t m c) = kind.Prepare
kind_of (Votes t m) = kind.Vote
kind_of (Commits t m c) = kind.Commit
kind_of (Asks t m c) = kind.Ask

abbrev coord_of : plain.Exchange → ℕ
coord_of (Prepares t m c) = c
coord_of (Votes t m) = 0
coord_of (Commits t m c) = c
coord_of (Asks t m c) = c

abbrev rank_of : ExchangeKind → ℕ
rank_of kind.Prepare = 0
rank_of kind.Vote = 1
rank_of kind.Commit = 2
rank_of kind.Ask = 3

as_parts : (e : plain.Exchange) → e ≡ exchange_as (kind_of e) (exchange_txn e) (exchange_member e) (coord_of e)
as_parts (Prepares t m c) = refl
as_parts (Votes t m) = refl
as_parts (Commits t m c) = refl
as_parts (Asks t m c) = refl

rank_is : (e : plain.Exchange) → rank_of (kind_of e) ≡ exchange_rank e
rank_is (Prepares t m c) = refl
rank_is (Votes t m) = refl
rank_is (Commits t m c) = refl
rank_is (Asks t m c) = refl

rank_as : (k : ExchangeKind) (t m c : ℕ) → exchange_rank (exchange_as k t m c) ≡ rank_of k
rank_as kind.Prepare t m c = refl
rank_as kind.Vote t m c = refl
rank_as kind.Commit t m c = refl
rank_as kind.Ask t m c = refl

txn_as : (k : ExchangeKind) (t m c : ℕ) → exchange_txn (exchange_as k t m c) ≡ t
txn_as kind.Prepare t m c = refl
txn_as kind.Vote t m c = refl
txn_as kind.Commit t m c = refl
txn_as kind.Ask t m c = refl

member_as : (k : ExchangeKind) (t m c : ℕ) → exchange_member (exchange_as k t m c) ≡ m
member_as kind.Prepare t m c = refl
member_as kind.Vote t m c = refl
member_as kind.Commit t m c = refl
member_as kind.Ask t m c = refl

one_rank : (j k : ExchangeKind) → rank_of j ≡ rank_of k → j ≡ k
one_rank kind.Prepare kind.Prepare e = refl
one_rank kind.Prepare kind.Vote e = absurd (omega (arith, e))
one_rank kind.Prepare kind.Commit e = absurd (omega (arith, e))
one_rank kind.Prepare kind.Ask e = absurd (omega (arith, e))
one_rank kind.Vote kind.Prepare e = absurd (omega (arith, e))
one_rank kind.Vote kind.Vote e = refl
one_rank kind.Vote kind.Commit e = absurd (omega (arith, e))
one_rank kind.Vote kind.Ask e = absurd (omega (arith, e))
one_rank kind.Commit kind.Prepare e = absurd (omega (arith, e))
one_rank kind.Commit kind.Vote e = absurd (omega (arith, e))
one_rank kind.Commit kind.Commit e = refl
one_rank kind.Commit kind.Ask e = absurd (omega (arith, e))
one_rank kind.Ask kind.Prepare e = absurd (omega (arith, e))
one_rank kind.Ask kind.Vote e = absurd (omega (arith, e))
one_rank kind.Ask kind.Commit e = absurd (omega (arith, e))
one_rank kind.Ask kind.Ask e = refl

-- ---- an exchange of one kind at one member

module _ (s : Federation) (t m : ℕ) (own : IsMember s m) where
  helped : (k : ExchangeKind) → k ≢ kind.Vote → (c : ℕ) → IsCoordinator s c → helps s k t m c ≡ true → IsEnabled s (exchange_as k t m c)
  helped kind.Prepare other c i h = (own, i, h)
  helped kind.Vote other c i h = absurd (other refl)
  helped kind.Commit other c i h = (own, i, h)
  helped kind.Ask other c i h = (own, i, h)

  helps_there : (k : ExchangeKind) → k ≢ kind.Vote → (c : ℕ) → IsEnabled s (exchange_as k t m c) → IsCoordinator s c × (helps s k t m c ≡ true)
  helps_there kind.Prepare other c h = (h.1, h.2)
  helps_there kind.Vote other c h = absurd (other refl)
  helps_there kind.Commit other c h = (h.1, h.2)
  helps_there kind.Ask other c h = (h.1, h.2)

  pub enabled_with : (k : ExchangeKind) → k ≢ kind.Vote → (o : Option ℕ) →
      MatchOption o ((c : ℕ) → IsCoordinator s c → helps s k t m c ≡ false) (λ c. IsCoordinator s c × (helps s k t m c ≡ true)) →
      MatchOption o ((c : ℕ) → IsEnabled s (exchange_as k t m c) → ⊥) (λ c. IsEnabled s (exchange_as k t m c))
  enabled_with k other None none = λ c h. let p = helps_there k other c h in let z : true ≡ false = sym p.1 ∙ none c p.0 in cc
  enabled_with k other (Some c) some = helped k other c some.0 some.1

-- ---- the exchanges of one transaction

module _ (s : Federation) (t : ℕ) where
  abbrev pub NoneOf : ExchangeKind → Type 0
  NoneOf k = (m c : ℕ) → IsEnabled s (exchange_as k t m c) → ⊥

  abbrev pub FirstOf : ExchangeKind → Exchange → Type 0
  FirstOf k e = (e.kind ≡ k) × (e.txn ≡ t) × IsEnabled s (exchange_as k t e.member e.coord) × ((m c : ℕ) → m < e.member → IsEnabled s (exchange_as k t m c) → ⊥)

  about : (e : plain.Exchange) → exchange_txn e ≡ t → IsEnabled s e → IsEnabled s (exchange_as (kind_of e) t (exchange_member e) (coord_of e))
  about e same h = subst (λ u. IsEnabled s (exchange_as (kind_of e) u (exchange_member e) (coord_of e))) same (subst (IsEnabled s) (as_parts e) h)

  pub none_at_all : NoneOf kind.Prepare → NoneOf kind.Vote → NoneOf kind.Commit → NoneOf kind.Ask → (e : plain.Exchange) → exchange_txn e ≡ t → IsEnabled s e → ⊥
  none_at_all p v c a e same h = by (kind_of e) (about e same h)
    where
      by : (k : ExchangeKind) → IsEnabled s (exchange_as k t (exchange_member e) (coord_of e)) → ⊥
      by kind.Prepare q = p (exchange_member e) (coord_of e) q
      by kind.Vote q = v (exchange_member e) (coord_of e) q
      by kind.Commit q = c (exchange_member e) (coord_of e) q
      by kind.Ask q = a (exchange_member e) (coord_of e) q

  pub first_of_all : (k : ExchangeKind) (e : Exchange) → FirstOf k e → ((j : ExchangeKind) → rank_of j < rank_of k → NoneOf j) → (e.txn ≡ t) × IsFirstOf s t (exchange_of e)
  first_of_all k e f earlier = (
    f.1,
    record {
      about = txn_as e.kind e.txn e.member e.coord ∙ f.1;
      enabled = subst (λ j. IsEnabled s (exchange_as j e.txn e.member e.coord)) (sym f.0) (subst (λ u. IsEnabled s (exchange_as k u e.member e.coord)) (sym f.1) f.2);
      others = λ other same before h. by other same before (about other same h);
    },
  )
    where
      rank : exchange_rank (exchange_of e) ≡ rank_of k
      rank = rank_as e.kind e.txn e.member e.coord ∙ ap rank_of f.0

      by : (other : plain.Exchange) → exchange_txn other ≡ t →
          (exchange_rank other < exchange_rank (exchange_of e)) ⊎ ((exchange_rank other ≡ exchange_rank (exchange_of e)) × (exchange_member other < exchange_member (exchange_of e))) →
          IsEnabled s (exchange_as (kind_of other) t (exchange_member other) (coord_of other)) → ⊥
      by other same (inl l) h = let a = rank_is other in let below : rank_of (kind_of other) < rank_of k = omega (arith, l, a, rank) in earlier (kind_of other) below (exchange_member other) (coord_of other) h
      by other same (inr p) h =
          let one = one_rank (kind_of other) k (rank_is other ∙ p.0 ∙ rank) in
          let m = member_as e.kind e.txn e.member e.coord in
          let l = p.1 in
          let below : exchange_member other < e.member = omega (arith, l, m) in
          f.3 (exchange_member other) (coord_of other) below (subst (λ j. IsEnabled s (exchange_as j t (exchange_member other) (coord_of other))) one h)

  -- of the kinds in their order
  pub by_prepare : (e : Exchange) → FirstOf kind.Prepare e → (e.txn ≡ t) × IsFirstOf s t (exchange_of e)
  by_prepare e f = first_of_all kind.Prepare e f (λ j l. absurd (omega (arith, l)))

  pub by_vote : NoneOf kind.Prepare → (e : Exchange) → FirstOf kind.Vote e → (e.txn ≡ t) × IsFirstOf s t (exchange_of e)
  by_vote p e f = first_of_all kind.Vote e f by
    where
      by : (j : ExchangeKind) → rank_of j < 1 → NoneOf j
      by kind.Prepare l = p
      by kind.Vote l = absurd (omega (arith, l))
      by kind.Commit l = absurd (omega (arith, l))
      by kind.Ask l = absurd (omega (arith, l))

  pub by_commit : NoneOf kind.Prepare → NoneOf kind.Vote → (e : Exchange) → FirstOf kind.Commit e → (e.txn ≡ t) × IsFirstOf s t (exchange_of e)
  by_commit p v e f = first_of_all kind.Commit e f by
    where
      by : (j : ExchangeKind) → rank_of j < 2 → NoneOf j
      by kind.Prepare l = p
      by kind.Vote l = v
      by kind.Commit l = absurd (omega (arith, l))
      by kind.Ask l = absurd (omega (arith, l))

  pub by_ask : NoneOf kind.Prepare → NoneOf kind.Vote → NoneOf kind.Commit → (e : Exchange) → FirstOf kind.Ask e → (e.txn ≡ t) × IsFirstOf s t (exchange_of e)
  by_ask p v c e f = first_of_all kind.Ask e f by
    where
      by : (j : ExchangeKind) → rank_of j < 3 → NoneOf j
      by kind.Prepare l = p
      by kind.Vote l = v
      by kind.Commit l = c
      by kind.Ask l = absurd (omega (arith, l))

-- ---- what was found, or nothing

pub nothing_found : {X : Type 0} (N : Type 0) (S : X → Type 0) (o : Option X) (b : Bool) → b ≡ is_some o → b ≡ false → MatchOption o N S → N
nothing_found N S None b is not_some h = h
nothing_found N S (Some x) b is not_some h = absurd (let z : true ≡ false = sym is ∙ not_some in cc)

pub something_found : {X : Type 0} (N M : Type 0) (S Q : X → Type 0) (o : Option X) (b : Bool) → b ≡ is_some o → b ≡ true → ((x : X) → S x → Q x) → MatchOption o N S → MatchOption o M Q
something_found N M S Q None b is some so h = absurd (let z : false ≡ true = sym is ∙ some in cc)
something_found N M S Q (Some x) b is some so h = so x h

pub found_or_not : {X : Type 0} (N M : Type 0) (S Q : X → Type 0) (o : Option X) → (N → M) → ((x : X) → S x → Q x) → MatchOption o N S → MatchOption o M Q
found_or_not N M S Q None nothing so h = nothing h
found_or_not N M S Q (Some x) nothing so h = so x h
