-- Sound logs of the federation's own nodes, each as the grammar allows it, may be opened.
use Rattle.std.proofs.Common.{◌≡◌, ◌⊎◌, inl, inr, ℕ, Bool, true, false, ◌&&◌, nat_le, List, [], reverse, length, None, refl, sym, ap, ◌∙◌}
use Rattle.std.specs.Option.{is_some}
use Rattle.std.proofs.lemmas.Bool.{or_cases, or_from}
use Rattle.std.specs.FinMap.{keys}
use Rattle.co_base.specs.declared.head.Kind.{Kind}
use Rattle.co_state.specs.Table.{holds, no_entries}
use Rattle.co_plain.specs.declared.member_view.MemberView.{MemberView}
use Rattle.co_plain.specs.MemberView.{Numbers, numbers_from, recovered_view, first_refused_at_member}
use Rattle.co_plain.specs.CoordView.{recovered_commits, has_commit_of}
use Rattle.co_plain.specs.Opening.{Found, numbers_in, union_to, used_numbers, OnlyOwnLogs}
use Rattle.co_plain.specs.SoundLogs.{AreSound}
use Rattle.co_plain.specs.Invariants.{stands}
use Rattle.co_law_base.proofs.Lookups.{look_none}
use Rattle.co_law_base.proofs.NumberSets.{among_from, laid_has, key_of, first_has, second_has, union_has}
use Rattle.co_plain.specs.Premises.{AreOpenable}
use Rattle.co_law_node.proofs.Allowed.{Tells, tells, allowed_from}

view_has : (v : MemberView) (t : ℕ) → stands v t ≡ true → holds (numbers_in v) t ≡ true
view_has v t h = by (or_cases (holds v.voted t) (holds v.committed t) h)
  where
    by : (holds v.voted t ≡ true) ⊎ (holds v.committed t ≡ true) → holds (numbers_in v) t ≡ true
    by (inl k) = first_has (numbers_from (keys v.voted)) v.committed t (laid_has no_entries (keys v.voted) t (key_of v.voted t k))
    by (inr k) = second_has (numbers_from (keys v.voted)) v.committed t k

-- Logs of the federation's own nodes alone, each member's as the grammar allows it, sound or not.
module _ (kinds : List Kind) (coords : ℕ) (fm fc : ℕ → Found) (own : OnlyOwnLogs kinds coords fm fc) (allowed : (m : ℕ) → first_refused_at_member coords (reverse (fm m).records) ≡ None) where
  -- what the records of a member tell
  pub tells_there : (m : ℕ) → Tells coords (recovered_view (fm m).records)
  tells_there m = tells coords (fm m).records (allowed_from coords (fm m).records (allowed m))

  abbrev members : Numbers
  members = union_to (length kinds) (λ m. numbers_in (recovered_view (fm m).records))

  abbrev coordinators : Numbers
  coordinators = union_to coords (λ c. (recovered_commits (fc c).records).seen)

  none_stands : (t : ℕ) → stands (recovered_view []) t ≡ false
  none_stands t = or_from _ _ (ap is_some (look_none t)) (ap is_some (look_none t))

  pub members_used : (m t : ℕ) → stands (recovered_view (fm m).records) t ≡ true → holds (used_numbers (length kinds) coords fm fc) t ≡ true
  members_used m t h = by (nat_le 1 m && nat_le m (length kinds)) refl
    where
      by : (b : Bool) → (nat_le 1 m && nat_le m (length kinds)) ≡ b → holds (used_numbers (length kinds) coords fm fc) t ≡ true
      by true e =
          first_has members coordinators t
          (union_has (length kinds) (λ k. numbers_in (recovered_view (fm k).records)) m t (among_from m (length kinds) e) (view_has (recovered_view (fm m).records) t h))
      by false e = absurd (let z : true ≡ false = sym h ∙ ap (λ rs. stands (recovered_view rs) t) (own.members m e) ∙ none_stands t in cc)

  pub coords_used : (c t : ℕ) → has_commit_of (fc c).records t ≡ true → holds (used_numbers (length kinds) coords fm fc) t ≡ true
  coords_used c t h = by (nat_le 1 c && nat_le c coords) refl
    where
      by : (b : Bool) → (nat_le 1 c && nat_le c coords) ≡ b → holds (used_numbers (length kinds) coords fm fc) t ≡ true
      by true e =
          second_has members coordinators t (union_has coords (λ k. (recovered_commits (fc k).records).seen) c t (among_from c coords e) h)
      by false e = absurd (let z : true ≡ false = sym h ∙ ap (λ rs. has_commit_of rs t) (own.coordinators c e) ∙ ap is_some (look_none t) in cc)

pub readable : (kinds : List Kind) (coords : ℕ) (fm fc : ℕ → Found) → AreSound (λ m. (fm m).records) (λ c. (fc c).records) → OnlyOwnLogs kinds coords fm fc →
    ((m : ℕ) → first_refused_at_member coords (reverse (fm m).records) ≡ None) → AreOpenable kinds coords fm fc
readable kinds coords fm fc sound own allowed =
    record {
      sound = sound;
      free = λ m. (tells_there kinds coords fm fc own allowed m).free;
      apart = λ m. (tells_there kinds coords fm fc own allowed m).apart;
      members_used = members_used kinds coords fm fc own allowed;
      coords_used = coords_used kinds coords fm fc own allowed;
    }
