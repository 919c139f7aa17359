-- Where all logs are of the newest version, as behind a migration that was done, a migration fills nothing.
use Rattle.std.proofs.Common.{◌≡◌, ◌≢◌, ◌⊎◌, inl, inr, ℕ, zero, suc, ◌+◌, ◌-◌, ◌≤◌, List, [], ◌∷◌, length, Option, refl, sym, ap, subst, ◌∙◌, arith}
use Rattle.std.specs.List.{AllByRecursion}
use Rattle.co_base.specs.Limits.{most_coordinators, most_log_bytes, most_members}
use Rattle.co_base.specs.Nodes.{IsValidNode}
use Rattle.co_base.specs.declared.node.Node.{Node}
use Rattle.co_outside.specs.Home.{File}
use Rattle.co_outside.specs.declared.spot.Spot.{Spot}
use Rattle.co_record.specs.Format.{newest, oldest}
use Rattle.co_log.specs.Attaching.{IsWithin}
use Rattle.co_log.specs.LogView.{spot_of}
use Rattle.co_log.specs.NodeFiles.{Items}
use Rattle.co_durable.specs.Nodes.{nodes_of}
use Rattle.co_durable.specs.Told.{IsTold, AreTold}
use Rattle.co_opening.proofs.OpenedOnce.{new_not_old}
use Rattle.co_opening.specs.Versions.{IsOfVersion, IsNewIn, IsOldIn}
use Rattle.co_migrate.specs.Migrating.{all_nodes, HasCurrentFile, refilled_items, IsOldNode, IsFilledIn, AreOldAmong, NoFileChanges, AreAllFilled}
use Rattle.co_migrate.proofs.Apart.{all_nodes_are}
use Rattle.co_migrate.proofs.Keeping.{IsNodeKept, all_valid, filled_or_kept, olds_all, same_file, within_file}

-- of which version the current file of a node is
of_version : (file : Spot → Option File) (n : Node) (version generation part : ℕ) (items : Items) → part ≤ 1 → HasCurrentFile file n part version generation items → IsOfVersion file n part version
of_version file n version generation zero items h c = record {
  a = c.this.bytes;
  b = c.that.bytes;
  told_a = λ f is. same_file f c.this (file (spot_of n 0)) is c.this_is;
  told_b = λ f is. same_file f c.that (file (spot_of n 1)) is c.that_is;
  within_a = within_file c.this (file (spot_of n 0)) c.this_is c.short;
  within_b = within_file c.that (file (spot_of n 1)) c.that_is c.that_short;
  current = inr (inl (refl, (generation, items, c.current)));
}
of_version file n version generation (suc zero) items h c = record {
  a = c.that.bytes;
  b = c.this.bytes;
  told_a = λ f is. same_file f c.that (file (spot_of n 0)) is c.that_is;
  told_b = λ f is. same_file f c.this (file (spot_of n 1)) is c.this_is;
  within_a = within_file c.that (file (spot_of n 0)) c.that_is c.that_short;
  within_b = within_file c.this (file (spot_of n 1)) c.this_is c.short;
  current = inr (inr (refl, (generation, items, c.current)));
}
of_version file n version generation (suc (suc k)) items h c = absurd (omega (arith, h))

module _ (old new : Spot → Option File) where
  filled_is_new : (n : Node) → IsFilledIn old new n → IsNewIn new n
  filled_is_new n f = (1 - f.was.part, of_version new n newest (f.was.generation + 1) (1 - f.was.part) (refilled_items n f.was.items) f.now.one_of_two f.now)

  kept_is_new : (n : Node) → IsNodeKept old new n → IsNewIn old n → IsNewIn new n
  kept_is_new n kept is = (
    is.0,
    record {
      a = is.1.a;
      b = is.1.b;
      told_a = λ f here. is.1.told_a f (sym kept.0 ∙ here);
      told_b = λ f here. is.1.told_b f (sym kept.1 ∙ here);
      within_a = subst (IsWithin most_log_bytes) (sym kept.0) is.1.within_a;
      within_b = subst (IsWithin most_log_bytes) (sym kept.1) is.1.within_b;
      current = is.1.current;
    },
  )

  -- every node is of the newest version then
  all_new : (nodes olds : List Node) → AllByRecursion IsValidNode nodes → AreOldAmong old nodes olds → AllByRecursion (IsFilledIn old new) olds → ((n : Node) → IsValidNode n → IsFilledIn old new n ⊎ IsNodeKept old new n) →
      AllByRecursion (IsNewIn new) nodes
  all_new [] olds valid among filled each = tt
  all_new (n ∷ nodes) olds valid (inl fresh) filled each = (
    elim (each n valid.0) [ inl f ↦ filled_is_new n f | inr k ↦ kept_is_new n k fresh.0 ],
    all_new nodes olds valid.1 fresh.1 filled each,
  )
  all_new (n ∷ nodes) olds valid (inr found) filled each =
      let all = subst (AllByRecursion (IsFilledIn old new)) found.1 filled in (filled_is_new n all.0, all_new nodes found.0 valid.1 found.3 all.1 each)

-- and so none is of the oldest
none_old : (file : Spot → Option File) (nodes olds : List Node) → AllByRecursion (IsTold file) nodes → AllByRecursion (IsNewIn file) nodes → AreOldAmong file nodes olds → olds ≡ []
none_old file [] olds told new among = among
none_old file (n ∷ nodes) olds told new (inl fresh) = none_old file nodes olds told.1 new.1 fresh.1
none_old file (n ∷ nodes) olds told new (inr found) =
    let is = found.2 in
    absurd (new_not_old file (spot_of n is.part) n told.0 new.0 (is.part, refl, of_version file n oldest is.generation is.part is.items is.is.one_of_two is.is))

pub all_newest : (old new : Spot → Option File) (count : ℕ) → AreAllFilled old new count → AllByRecursion (IsNewIn new) all_nodes
all_newest old new count one = all_new old new all_nodes one.olds all_valid one.among one.filled (λ n own. filled_or_kept old new count one n own)

pub fills_nothing : (new newer : Spot → Option File) (again : ℕ) → AreTold new most_members most_coordinators → AllByRecursion (IsNewIn new) all_nodes → AreAllFilled new newer again → (again ≡ 0) × NoFileChanges new newer
fills_nothing new newer again told all two =
    let none = none_old new all_nodes two.olds (subst (AllByRecursion (IsTold new)) (sym all_nodes_are) told) all two.among in
    (two.many ∙ ap length none, λ s. two.only s (subst (AllByRecursion _) (sym none) tt))
