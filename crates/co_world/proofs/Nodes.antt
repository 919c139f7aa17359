-- What the nodes of a federation do, as a change of the federation that they are in.
use Rattle.std.proofs.Common.{◌≡◌, ℕ, List, sym, ap, subst, ◌∙◌}
use Rattle.co_base.specs.declared.head.Kind.{Kind}
use Rattle.co_base.specs.declared.mark.Mark.{Mark}
use Rattle.co_message.specs.declared.message.Message.{Message}
use Rattle.co_outside.specs.Home.{HomeView}
use Rattle.co_plain.specs.Federation.{Federation, with_member, with_coord, with_session, noted}
use Rattle.co_plain.specs.Step.{disarmed}
use Rattle.co_plain.specs.Wire.{send_all}
use Rattle.co_plain.specs.declared.coord_state.CoordState.{CoordState}
use Rattle.co_plain.specs.declared.member_state.MemberState.{MemberState}
use Rattle.co_plain.specs.declared.session.Session.{Session}
use Rattle.co_state.specs.declared.engine_state.EngineState.{EngineState}
use Rattle.co_state.specs.Table.{Table}
use Rattle.co_cluster.specs.Left.{AreLeftAs}
use Rattle.co_cluster.specs.Pins.{PinsStay as ClusterPinsStay}
use Rattle.co_cluster.specs.Standing.{RepresentsCluster}
use Rattle.co_cluster.specs.declared.cluster.Cluster.{Cluster}
use Rattle.co_cluster.proofs.Lefts as nodes
use Rattle.co_world.specs.Pins.{PinsStay}
use Rattle.co_world.specs.Standing.{RepresentsWorld, AreHeld}
use Rattle.co_world.specs.declared.world.World.{World}

module _ {E : Type 0} (takes : Kind → Type 0) (stands_for : E → EngineState → Type 0) where
  -- one node is another one, and what clients did and what was sent stays
  pub member_changed : (w : World E) (c : Cluster E) (s : Federation) (k : ℕ) (x : MemberState) → RepresentsWorld takes stands_for w s → RepresentsCluster takes stands_for c (with_member s k x) →
      RepresentsWorld takes stands_for (record w { cluster = c }) (with_member s k x)
  member_changed w c s k x r now = record { cluster = now; sessions = r.sessions; used = r.used; counted = r.counted; wire = r.wire; homes = r.homes }

  pub coord_changed : (w : World E) (c : Cluster E) (s : Federation) (k : ℕ) (y : CoordState) → RepresentsWorld takes stands_for w s → RepresentsCluster takes stands_for c (with_coord s k y) →
      RepresentsWorld takes stands_for (record w { cluster = c }) (with_coord s k y)
  coord_changed w c s k y r now = record { cluster = now; sessions = r.sessions; used = r.used; counted = r.counted; wire = r.wire; homes = r.homes }

  pub all_disarmed : (w : World E) (c : Cluster E) (s : Federation) → RepresentsWorld takes stands_for w s → RepresentsCluster takes stands_for c (disarmed s) →
      RepresentsWorld takes stands_for (record w { cluster = c }) (disarmed s)
  all_disarmed w c s r now = record { cluster = now; sessions = r.sessions; used = r.used; counted = r.counted; wire = r.wire; homes = r.homes }

  -- the nodes are others, and stand for the same plain ones
  pub nodes_stand : (w : World E) (c : Cluster E) (s : Federation) → RepresentsWorld takes stands_for w s → RepresentsCluster takes stands_for c s → RepresentsWorld takes stands_for (record w { cluster = c }) s
  nodes_stand w c s r now = record { cluster = now; sessions = r.sessions; used = r.used; counted = r.counted; wire = r.wire; homes = r.homes }

  -- what a client did is not the nodes'
  pub beside_session : (c : Cluster E) (s : Federation) (t : ℕ) (session : Session) → RepresentsCluster takes stands_for c s → RepresentsCluster takes stands_for c (with_session s t session)
  beside_session c s t session r =
      record {
        kinds = r.kinds;
        coordinators = r.coordinators;
        few_members = r.few_members;
        few_coordinators = r.few_coordinators;
        member = r.member;
        coord = r.coord;
      }

  -- nor is what was sent or decided
  beside_notes : (c : Cluster E) (s : Federation) (marks : List Mark) (messages : List Message) → RepresentsCluster takes stands_for c s → RepresentsCluster takes stands_for c (noted s marks messages)
  beside_notes c s marks messages r =
      record {
        kinds = r.kinds;
        coordinators = r.coordinators;
        few_members = r.few_members;
        few_coordinators = r.few_coordinators;
        member = r.member;
        coord = r.coord;
      }

  -- what became stable is not kept, and of what was sent only the messages are
  pub noted_stands : (w after : World E) (s : Federation) (marks : List Mark) (messages : List Message) → RepresentsWorld takes stands_for w s → after ≡ record w { wire = after.wire } → after.wire ≡ send_all w.wire messages
      → RepresentsWorld takes stands_for after (noted s marks messages)
  noted_stands w after s marks messages r rest sent =
      subst (λ (v : World E). RepresentsWorld takes stands_for v (noted s marks messages)) (sym rest)
      (record {
        cluster = beside_notes w.cluster s marks messages r.cluster;
        sessions = r.sessions;
        used = r.used;
        counted = r.counted;
        wire = sent ∙ ap (λ (ms : List Message). send_all ms messages) r.wire;
        homes = r.homes;
      })

  -- the files of its nodes have the stable records of the plain federation
  pub held_left : (w : World E) (s : Federation) (home : HomeView) → RepresentsWorld takes stands_for w s → AreHeld home w → AreLeftAs home.file s
  held_left w s home r held = nodes.held_left takes stands_for w.cluster s home r.cluster held

-- what is sent and told afterwards leaves the pins
pub pins_on : {E : Type 0} (pins : E → Table ℕ) (old mid new : World E) → PinsStay pins old mid → new.cluster ≡ mid.cluster → PinsStay pins old new
pins_on {E} pins old mid new stay same = subst (λ (c : Cluster E). ClusterPinsStay pins old.cluster c) (sym same) stay
