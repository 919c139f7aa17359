-- Over logs that the grammars allow, every commit record names who was asked about its transaction.
use Rattle.std.proofs.Common.{◌≡◌, ◌⊎◌, inl, inr, ℕ, Bool, true, false, not, List, [], ◌∷◌, reverse, None, refl, sym, ap, ◌∙◌, subst}
use Rattle.std.proofs.lemmas.Bool.{and_parts}
use Rattle.co_record.specs.declared.record.Record.{Record}
use Rattle.co_record.specs.declared.record.Record.TheVariants as log
use Rattle.co_state.specs.Table.{look, holds}
use Rattle.co_plain.specs.Numbers.{has_number}
use Rattle.co_plain.specs.CoordView.{recovered_commits, first_refused_at_coord, has_commit_of}
use Rattle.co_plain.specs.Decisions.{BelongsTo, BegunThere, VotedBefore}
use Rattle.co_plain.specs.Federation.{Federation}
use Rattle.co_plain.specs.SoundLogs.{unended_in, ByVote, ByCommit}
use Rattle.co_plain.specs.Invariants.{TakesPart, HeldOperations, NamedBefore}
use Rattle.co_plain.specs.CoordInvariants.{IsOneOf, TookPartIn, IsHeldFor}
use Rattle.co_plain.specs.AllInvariants.{AllInvariants}
use Rattle.co_law_base.proofs.Lookups.{found_holds}
use Rattle.co_law_base.proofs.KeptTold.{told_begun}
use Rattle.co_law_node.proofs.AllowedCommits.{AllowedCommits, commits_from}
use Rattle.co_law.specs.WholeInvariants.{AskedAreNamed}
use Rattle.co_law.proofs.CommitRecords.{commit_members, unended_one, one_seen}
use Rattle.co_law.proofs.HeldOnes.{took_decided}

not_true : (b : Bool) → not b ≡ true → b ≡ false
not_true true h = absurd (let z : false ≡ true = h in cc)
not_true false h = refl

-- an allowed log has one commit of a transaction
module _ (most : ℕ) where
  alone : (rs : List Record) (r : Record) (t : ℕ) (a b : List ℕ) → AllowedCommits most (r ∷ rs) → r ≡ log.Commit t a → IsOneOf (log.Commit t b) rs → a ≡ b
  alone rs r t a b w e h =
      let allowed = subst (λ q. AllowedCommits most (q ∷ rs)) e w in
      let z : true ≡ false = sym (one_seen rs t b h) ∙ not_true (holds (recovered_commits rs).seen t) (and_parts _ _ (and_parts _ _ allowed.0).0).1 in
      absurd (let y : true ≡ false = z in cc)

  one_commit : (rs : List Record) (t : ℕ) (a b : List ℕ) → AllowedCommits most rs → IsOneOf (log.Commit t a) rs → IsOneOf (log.Commit t b) rs → a ≡ b
  one_commit [] t a b w h k = absurd h
  one_commit (r ∷ rs) t a b w (inl p) (inl q) = ap commit_members (sym p ∙ q)
  one_commit (r ∷ rs) t a b w (inl p) (inr k) = alone rs r t a b w p k
  one_commit (r ∷ rs) t a b w (inr h) (inl q) = sym (alone rs r t b a w q h)
  one_commit (r ∷ rs) t a b w (inr h) (inr k) = one_commit rs t a b w.1 h k

module _ (most : ℕ) (s : Federation) (i : AllInvariants s) (allowed : (c : ℕ) → first_refused_at_coord most (reverse (s.opened_coord c)) ≡ None) where
  begun_apart : (t c : ℕ) → has_commit_of (s.opened_coord c) t ≡ true → holds s.sessions t ≡ true → ⊥
  begun_apart t c o b = let z : true ≡ false = sym ((i.tables c).opened t o) ∙ i.asked.begun_is_new t b in cc

  before : (t c m : ℕ) (members : List ℕ) → IsOneOf (log.Commit t members) (s.opened_coord c) → BelongsTo s t c → TakesPart s t m → has_number members m ≡ true
  before t c m members o b (HeldOperations l) =
      absurd (begun_apart t c (one_seen (s.opened_coord c) t members o) (told_begun (look s.sessions t) m l))
  before t c m members o (BegunThere session e home) (NamedBefore d ms h k) =
      absurd (begun_apart t c (one_seen (s.opened_coord c) t members o) (found_holds s.sessions t session e))
  before t c m members o (VotedBefore n v) (NamedBefore d ms h k) =
      let same : c ≡ d = i.opened_sound.one_coordinator t c d (ByVote n v) (ByCommit (found_holds (recovered_commits (s.opened_coord d)).unended t ms h)) in
      let there : IsOneOf (log.Commit t ms) (s.opened_coord c) = unended_one (s.opened_coord c) t ms (ap (λ e. unended_in (s.opened_coord e) t) same ∙ h) in
      ap (λ l. has_number l m) (one_commit most (s.opened_coord c) t members ms (commits_from most (s.opened_coord c) (allowed c)) o there) ∙ k

  named_by : (t c m : ℕ) → BelongsTo s t c → IsHeldFor s t c m → (members : List ℕ) → IsOneOf (log.Commit t members) (s.coord c).log.stable → has_number members m ≡ true
  named_by t c m b h members r = by (i.commits.recorded c t members r)
    where
      by : TookPartIn s.decided t members ⊎ IsOneOf (log.Commit t members) (s.opened_coord c) → has_number members m ≡ true
      by (inl x) = h.named members (i.decided_begun t (took_decided s.decided t members x)) r
      by (inr o) = before t c m members o b h.takes

  pub asked_named : AskedAreNamed s
  asked_named =
      record {
        prepared = λ t c m n members h alive r. named_by t c m (i.named.prepares t c m n h) (i.held.prepared t c m n h alive) members r;
        voted = λ t c m side members h alive r. named_by t c m ((i.views m side).named t c h) (i.held.voted t c m side h alive) members r;
        questioned = λ t m c members h alive r. named_by t c m (i.named.questions t m c h) (i.held.questioned t m c h alive) members r;
      }
