-- A federation over the nodes that were opened.
use Rattle.std.proofs.Common.{◌≡◌, ℕ, ◌≤◌, ◌+◌, arith, Bool, List, [], length, slice_get, Option, Some, sym, ap, subst, ◌∙◌}
use Rattle.std.specs.FinMap.{entries, keys, len-entries, len-empty}
use Rattle.std.specs.Ordering.{nat_cmp}
use Rattle.std.proofs.lemmas.List.{length-map}
use Rattle.co_base.specs.declared.head.Head.{Head}
use Rattle.co_base.specs.declared.head.Kind.{Kind}
use Rattle.co_base.specs.declared.mark.Mark.{Mark}
use Rattle.co_base.specs.Limits.{most_coordinators, most_members}
use Rattle.co_law_base.proofs.Lookups.{is_nothing, look_none}
use Rattle.co_message.specs.declared.answer.Answer.TheVariants as answer
use Rattle.co_message.specs.declared.item.Item.{Item}
use Rattle.co_outside.specs.Home.{File}
use Rattle.co_outside.specs.declared.spot.Spot.{Spot}
use Rattle.co_plain.specs.Federation.{items_of}
use Rattle.co_plain.specs.MemberView.{Numbers}
use Rattle.co_plain.specs.Numbers.{has_number}
use Rattle.co_plain.specs.Opening.{used_numbers}
use Rattle.co_plain.specs.declared.session.Session.{Session}
use Rattle.co_plain.specs.Runs.{numbered}
use Rattle.co_session.specs.Clients.{Clients, none_begun}
use Rattle.co_state.specs.Table.{no_entries}
use Rattle.co_state.specs.declared.engine_state.EngineState.{EngineState}
use Rattle.co_opening.specs.Opened.{AreOpened}
use Rattle.co_opening.specs.declared.nodes.Nodes.{Nodes}
use Rattle.co_opening.proofs.Laid.{has_keys}
use Rattle.co_world.specs.Attached.{IsAttachedOver}
use Rattle.co_world.specs.declared.world.World.{World}

none_counted : (X : Type 0) → length (keys (no_entries {X = X})) ≡ 0
none_counted X = length-map (entries (no_entries {X = X})) (λ e. e.0) ∙ sym (len-entries (no_entries {X = X})) ∙ len-empty nat_cmp X

alone : (used : List ℕ) → length used ≤ 65536 → length (none_begun used).begun + length (none_begun used).used ≤ 65536
alone used few = omega (arith, few)

pub attached_over : {E : Type 0} (takes : Kind → Type 0) (stands_for : E → EngineState → Type 0) (file : Spot → Option File) (head : Head) (resume : Bool) (n : Nodes E) (w : World E) (items : List Item)
    → length head.kinds ≤ most_members → head.coords ≤ most_coordinators → AreOpened takes stands_for file head resume n → w.cluster.members.items ≡ n.members.items → w.cluster.coords.items ≡ n.coords.items → w.sessions ≡ none_begun n.used → w.wire ≡ []
    → items ≡ numbered 1 (items_of n.marks [] answer.Opened) → IsAttachedOver takes stands_for file head resume w items
attached_over takes stands_for file head resume n w items few_members few_coords opened members coords sessions wire told =
    let used : Numbers = used_numbers (length head.kinds) head.coords opened.found_member opened.found_coord in
    record {
      found_member = opened.found_member;
      found_coord = opened.found_coord;
      found = opened.found;
      may = opened.may;
      unused = opened.unused;
      fit = opened.fit;
      few = subst (λ (ts : List ℕ). length ts ≤ 65536) opened.used opened.few;
      stands = record {
        cluster = record {
          kinds = ap length members ∙ opened.members;
          coordinators = ap length coords ∙ opened.coords;
          few_members = few_members;
          few_coordinators = few_coords;
          member = λ p m is. opened.member p m (subst (λ ms. slice_get ms p ≡ Some m) members is);
          coord = λ p c is. opened.coord p c (subst (λ cs. slice_get cs p ≡ Some c) coords is);
        };
        sessions = ap (λ (x : Clients). x.sessions) sessions;
        used = λ t. ap (λ (x : Clients). has_number x.used t) sessions ∙ ap (λ ts. has_number ts t) opened.used ∙ has_keys used t;
        counted = record {
          begun = ap (λ (x : Clients). length x.begun) sessions ∙ sym (none_counted Session);
          used = ap (λ (x : Clients). x.used) sessions ∙ opened.used;
          few = subst (λ (x : Clients). length x.begun + length x.used ≤ 65536) (sym sessions) (alone n.used opened.few);
        };
        wire = wire;
        homes = λ t session is. is_nothing (sym (look_none t) ∙ is);
      };
      told = told ∙ ap (λ (marks : List Mark). numbered 1 (items_of marks [] answer.Opened)) opened.marks;
    }
