-- A transaction is in the table of one coordinator alone.
use Rattle.std.proofs.Common.{◌≡◌, ◌≢◌, ◌⊎◌, inl, inr, ℕ, true, false, ◌&&◌, List, Option, None, Some, refl, sym, ◌∙◌}
use Rattle.std.proofs.lemmas.Bool.{and_parts}
use Rattle.co_state.specs.Table.{look}
use Rattle.co_plain.specs.declared.coord_state.Entry.{Entry}
use Rattle.co_plain.specs.declared.coord_state.Entry.TheVariants as entry
use Rattle.co_plain.specs.Federation.{Federation}
use Rattle.co_plain.specs.Decisions.{is_decided}
use Rattle.co_plain.specs.SoundLogs.{unended_in}
use Rattle.co_law_base.proofs.Commits.{unended_seen}
use Rattle.co_law_base.proofs.Facts.{Facts, rest_of, belongs, Begun, Voted, by_coord}
use Rattle.co_law_base.proofs.Carrying.{one_belongs, by_coord_begun}

-- it belongs there, or was opened there with its commit
abbrev pub Homes : Federation → ℕ → ℕ → Type 0
Homes s t c = belongs (rest_of s) t c ⊎ ((members : List ℕ) × (unended_in (s.opened_coord c) t ≡ Some members))

module _ (s : Federation) (f : Facts s) where
  pub in_table : (t c : ℕ) (e : Entry) → look (s.coord c).table t ≡ Some e → Homes s t c
  in_table t c entry.Idle h = inl (Begun ((f.coords c).idle t h).begun_there)
  in_table t c (entry.Collecting parts yeses) h = inl (Begun ((f.coords c).collecting t parts yeses h).still.begun_there)
  in_table t c (entry.Committed members acks) h = by ((f.coords c).unended_known t members ((f.coords c).committed t members acks h).recorded)
    where
      by : ((by_coord (look s.sessions t) c && is_decided s.decided t) ≡ true) ⊎ (unended_in (s.opened_coord c) t ≡ Some members) → Homes s t c
      by (inl p) = inl (Begun (and_parts (by_coord (look s.sessions t) c) (is_decided s.decided t) p).0)
      by (inr p) = inr (members, p)

  opened_here : (t c d : ℕ) (members : List ℕ) → belongs (rest_of s) t c → unended_in (s.opened_coord d) t ≡ Some members → c ≡ d
  opened_here t c d members (Begun h) k =
      absurd (let z : true ≡ false = sym (f.numbers.commit_used d t (unended_seen (s.opened_coord d) t members k)) ∙ f.numbers.new t (by_coord_begun (look s.sessions t) c h) in cc)
  opened_here t c d members (Voted m h) k = f.numbers.vote_commit t m c d members h k

  pub one_home : (t c d : ℕ) → Homes s t c → Homes s t d → c ≡ d
  one_home t c d (inl a) (inl b) = one_belongs (rest_of s) f.numbers t c d a b
  one_home t c d (inl a) (inr b) = opened_here t c d b.0 a b.1
  one_home t c d (inr a) (inl b) = sym (opened_here t d c a.0 b a.1)
  one_home t c d (inr a) (inr b) = f.numbers.one_commit t c d a.0 b.0 a.1 b.1

  -- no other table has it
  pub elsewhere : (t c : ℕ) → Homes s t c → (d : ℕ) → c ≢ d → look (s.coord d).table t ≡ None
  elsewhere t c h d n = by (look (s.coord d).table t) refl
    where
      by : (o : Option Entry) → look (s.coord d).table t ≡ o → look (s.coord d).table t ≡ None
      by None e = e
      by (Some x) e = absurd (n (one_home t c d h (in_table t d x e)))
