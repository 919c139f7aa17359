-- Nodes that were opened on their logs stand for the plain nodes that are opened over what was found.
use Rattle.std.proofs.Common.{◌≡◌, ℕ, suc, ◌+◌, List, [], true, sym, ap, subst, ◌∙◌, arith}
use Rattle.std.specs.FinMap.{entries}
use Rattle.co_base.specs.declared.head.Kind.{Kind}
use Rattle.co_base.specs.declared.node.Node.TheVariants.{Member, Coord}
use Rattle.co_log.specs.LogView.{LogView}
use Rattle.co_law_node.proofs.MemberEvents.{whole_opened}
use Rattle.co_law_node.proofs.MemberLaws.{as_told}
use Rattle.co_law_node.specs.WholeMembers.{IsWholeMember}
use Rattle.co_node.specs.NodeLog.{RepresentsLog}
use Rattle.co_plain.specs.CoordStep.{table_from}
use Rattle.co_plain.specs.CoordView.{recovered_commits}
use Rattle.co_plain.specs.Invariants.{Stable}
use Rattle.co_plain.specs.MemberView.{recovered_view}
use Rattle.co_plain.specs.Opening.{Found, opened_log, opened_member, opened_coord, kind_of, member_with}
use Rattle.co_plain.specs.declared.coord_view.CoordView.{CoordView}
use Rattle.co_plain.specs.declared.member_view.MemberView.{MemberView}
use Rattle.co_plain.specs.declared.log_state.LogState.{LogState}
use Rattle.co_recover.specs.Recovered.{past_of_member, past_of_coord}
use Rattle.co_recover.specs.declared.past.CoordPast.{CoordPast}
use Rattle.co_recover.specs.declared.past.MemberPast.{MemberPast}
use Rattle.co_state.specs.declared.engine_state.EngineState.{EngineState}
use Rattle.co_coord.specs.Opening.{told_table}
use Rattle.co_coord.specs.Standing.{RepresentsCoord}
use Rattle.co_coord.specs.declared.coord.Coord.{Coord as CoordOn}
use Rattle.co_member.specs.Attaching.{IsReadable, IsPastOf}
use Rattle.co_member.specs.Standing.{RepresentsMember}
use Rattle.co_member.specs.declared.member.Member.{Member as MemberOn}
use Rattle.co_opening.specs.Nodes.{IsMemberAt, IsCoordAt}
use Rattle.co_opening.specs.Standing.{IsMemberFound, IsCoordFound}
use Rattle.co_opening.proofs.Made.{made_view, made_commits}

next_of : (place : ℕ) → place + 1 ≡ suc place
next_of place = omega arith

-- ---- coordinators

module _ (members place : ℕ) (before after : LogView) (past : CoordPast) (found : Found) (f : IsCoordFound members (suc place) before past found) (log : RepresentsLog (Coord (suc place)) after (opened_log (Coord (suc place)) found)) where
  pub coord_at : (c : CoordOn) → ((l : LogState) → RepresentsLog (Coord (place + 1)) after l → past ≡ past_of_coord (recovered_commits l.stable) → RepresentsCoord c (record { up = true; table = told_table l; log = l }))
      → (c.number ≡ place + 1) × (c.members ≡ members) → IsCoordAt members place c (opened_coord (suc place) found)
  coord_at c stands is =
      let l : LogState = opened_log (Coord (suc place)) found in
      let told : past ≡ past_of_coord (recovered_commits l.stable) = f.past_is ∙ ap past_of_coord (sym (made_commits (Coord (suc place)) found.records)) in
      let here : RepresentsLog (Coord (place + 1)) after l = subst (λ n. RepresentsLog (Coord n) after l) (sym (next_of place)) log in
      record {
        number = is.0 ∙ next_of place;
        members_are = is.1;
        stands = subst (λ (v : CoordView). RepresentsCoord c (record { up = true; table = table_from (entries v.unended); log = l })) (made_commits (Coord (suc place)) found.records) (stands l here told);
      }

-- ---- members

module _ (coords place : ℕ) (before after : LogView) (past : MemberPast) (found : Found) (f : IsMemberFound coords (suc place) before past found) (log : RepresentsLog (Member (suc place)) after (opened_log (Member (suc place)) found)) where
  abbrev plain : LogState
  plain = opened_log (Member (suc place)) found

  told : IsPastOf (place + 1) after past plain
  told = record {
    log = subst (λ n. RepresentsLog (Member n) after plain) (sym (next_of place)) log;
    past = f.past_is ∙ ap past_of_member (sym (made_view (Member (suc place)) found.records));
  }

  readable : IsReadable coords plain
  readable =
      let whole : IsWholeMember coords (opened_member [] (suc place) found) = as_told coords _ (whole_opened coords [] (suc place) found f.allowed) in
      record { allowed = whole.readable Stable; free = whole.conflict_free Stable }

  pub member_stands : (l : LogState) × IsPastOf (place + 1) after past l × IsReadable coords l
  member_stands = (plain, told, readable)

  pub member_at : {E : Type 0} (takes : Kind → Type 0) (stands_for : E → EngineState → Type 0) (kinds : List Kind) (kind : Kind) (m : MemberOn E) → takes kind → kind ≡ kind_of kinds (suc place)
      → ((l : LogState) → IsPastOf (place + 1) after past l → RepresentsMember stands_for m (member_with kind l (recovered_view l.stable))) → (m.number ≡ place + 1) × (m.kind ≡ kind) × (m.coords ≡ coords) × (m.log ≡ after)
      → IsMemberAt takes stands_for coords place m (opened_member kinds (suc place) found)
  member_at takes stands_for kinds kind m taken of_kind stands is = record {
    number = is.0 ∙ next_of place;
    coords_are = is.2;
    taken = subst takes (sym is.1) taken;
    stands = subst (λ (k : Kind). RepresentsMember stands_for m (member_with k plain (recovered_view found.records))) of_kind
        (subst (λ (v : MemberView). RepresentsMember stands_for m (member_with kind plain v)) (made_view (Member (suc place)) found.records) (stands plain told));
  }
