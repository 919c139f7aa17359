-- The group of a head. Over fresh logs a header of every node is told, and so the transcript is open; behind records no header is wanted.
use Rattle.std.proofs.Common.{◌≡◌, ℕ, zero, suc, Bool, true, false, ◌&&◌, ◌||◌, List, [], ◌∷◌, ◌++◌, length, map, None, Some, if◌then◌else◌, refl, sym, ap, ◌∙◌, subst, append_assoc}
use Rattle.co_base.specs.declared.head.Head.{Head}
use Rattle.co_base.specs.declared.mark.Mark.{Mark}
use Rattle.co_base.specs.declared.node.Node.{Node}
use Rattle.co_base.specs.declared.node.Node.TheVariants as node
use Rattle.co_message.specs.declared.answer.Answer.TheVariants as answer
use Rattle.co_message.specs.declared.item.Item.{Item}
use Rattle.co_message.specs.declared.item.ItemKind.TheVariants as item
use Rattle.co_record.specs.declared.record.Record.{Record}
use Rattle.co_plain.specs.Opening.{Found, header_mark, member_headers, coord_headers, opening_items}
use Rattle.co_plain.specs.Runs.{numbered}
use Rattle.co_base.specs.Nodes.{same_node}
use Rattle.co_check.specs.Account.{Account, no_account}
use Rattle.co_check.specs.Shape.{unread, read_from, at_place, has_node, with_node, is_first_header, with_header, has_members, has_coords, has_headers}
use Rattle.co_check.specs.Stages.{members_to, coords_to, nodes_of}
use Rattle.co_check.specs.declared.place.Place.TheVariants.{InHead, Behind}
use Rattle.co_law_check.proofs.Marks.{own}
use Rattle.co_law_check.proofs.Groups.{numbered_more}

-- the nodes whose header was told, after these marks
abbrev pub seen_after : List Node → List Mark → List Node
seen_after seen [] = seen
seen_after seen (mark ∷ marks) = seen_after (with_header seen mark) marks

seen_more : (seen : List Node) (xs ys : List Mark) → seen_after seen (xs ++ ys) ≡ seen_after (seen_after seen xs) ys
seen_more seen [] ys = refl
seen_more seen (mark ∷ xs) ys = seen_more (with_header seen mark) xs ys

-- ---- no node is forgotten

same_self : (at : Node) → same_node at at ≡ true
same_self (node.Member m) = own m
same_self (node.Coord c) = own c

longer_has : (seen more : List Node) (at : Node) → has_node seen at ≡ true → has_node (seen ++ more) at ≡ true
longer_has [] more at h = absurd (let z : false ≡ true = h in cc)
longer_has (n ∷ seen) more at h = by (longer_has seen more at) (same_node n at) h
  where
    by : (has_node seen at ≡ true → has_node (seen ++ more) at ≡ true) → (b : Bool) → (b || has_node seen at) ≡ true → (b || has_node (seen ++ more) at) ≡ true
    by rest true k = refl
    by rest false k = rest k

last_has : (seen : List Node) (at : Node) → has_node (seen ++ at ∷ []) at ≡ true
last_has [] at = ap (λ b. b || false) (same_self at)
last_has (n ∷ seen) at = by (last_has seen at) (same_node n at)
  where
    by : has_node (seen ++ at ∷ []) at ≡ true → (b : Bool) → (b || has_node (seen ++ at ∷ []) at) ≡ true
    by rest true = refl
    by rest false = rest

node_kept : (seen : List Node) (new at : Node) → has_node seen at ≡ true → has_node (with_node seen new) at ≡ true
node_kept seen new at h = by (has_node seen new)
  where
    by : (b : Bool) → has_node (if b then seen else seen ++ new ∷ []) at ≡ true
    by true = h
    by false = longer_has seen (new ∷ []) at h

header_kept : (seen : List Node) (mark : Mark) (at : Node) → has_node seen at ≡ true → has_node (with_header seen mark) at ≡ true
header_kept seen mark at h = by (is_first_header mark.kind mark.number)
  where
    by : (b : Bool) → has_node (if b then with_node seen mark.node else seen) at ≡ true
    by true = node_kept seen mark.node at h
    by false = h

kept : (seen : List Node) (marks : List Mark) (at : Node) → has_node seen at ≡ true → has_node (seen_after seen marks) at ≡ true
kept seen [] at h = h
kept seen (mark ∷ marks) at h = kept (with_header seen mark) marks at (header_kept seen mark at h)

-- ---- and each header is told

node_told : (seen : List Node) (at : Node) → has_node (with_node seen at) at ≡ true
node_told seen at = by (has_node seen at) refl
  where
    by : (b : Bool) → has_node seen at ≡ b → has_node (if b then seen else seen ++ at ∷ []) at ≡ true
    by true e = e
    by false e = last_has seen at

header_told : (seen : List Node) (at : Node) (records : List Record) → records ≡ [] → has_node (seen_after seen (header_mark at records)) at ≡ true
header_told seen at records is = subst (λ rs. has_node (seen_after seen (header_mark at rs)) at ≡ true) (sym is) (node_told seen at)

both : (x y : Bool) → x ≡ true → y ≡ true → (x && y) ≡ true
both true y e f = f
both false y e f = absurd (let z : false ≡ true = e in cc)

parts : (x y : Bool) → (x && y) ≡ true → (x ≡ true) × (y ≡ true)
parts true y h = (refl, h)
parts false y h = absurd (let z : false ≡ true = h in cc)

members_kept : (seen : List Node) (marks : List Mark) (n : ℕ) → has_members seen n ≡ true → has_members (seen_after seen marks) n ≡ true
members_kept seen marks zero h = refl
members_kept seen marks (suc n) h =
    let p = parts (has_node seen (node.Member (suc n))) (has_members seen n) h in
    both (has_node (seen_after seen marks) (node.Member (suc n))) (has_members (seen_after seen marks) n) (kept seen marks (node.Member (suc n)) p.0) (members_kept seen marks n p.1)

coords_kept : (seen : List Node) (marks : List Mark) (n : ℕ) → has_coords seen n ≡ true → has_coords (seen_after seen marks) n ≡ true
coords_kept seen marks zero h = refl
coords_kept seen marks (suc n) h =
    let p = parts (has_node seen (node.Coord (suc n))) (has_coords seen n) h in
    both (has_node (seen_after seen marks) (node.Coord (suc n))) (has_coords (seen_after seen marks) n) (kept seen marks (node.Coord (suc n)) p.0) (coords_kept seen marks n p.1)

members_told : (seen : List Node) (found : ℕ → Found) → ((m : ℕ) → (found m).records ≡ []) → (n : ℕ) → has_members (seen_after seen (member_headers n found)) n ≡ true
members_told seen found fresh zero = refl
members_told seen found fresh (suc n) =
    subst (λ ns. has_members ns (suc n) ≡ true) (sym (seen_more seen (member_headers n found) (header_mark (node.Member (suc n)) (found (suc n)).records)))
    (both _ _ (header_told (seen_after seen (member_headers n found)) (node.Member (suc n)) (found (suc n)).records (fresh (suc n)))
    (members_kept (seen_after seen (member_headers n found)) (header_mark (node.Member (suc n)) (found (suc n)).records) n (members_told seen found fresh n)))

coords_told : (seen : List Node) (found : ℕ → Found) → ((c : ℕ) → (found c).records ≡ []) → (n : ℕ) → has_coords (seen_after seen (coord_headers n found)) n ≡ true
coords_told seen found fresh zero = refl
coords_told seen found fresh (suc n) =
    subst (λ ns. has_coords ns (suc n) ≡ true) (sym (seen_more seen (coord_headers n found) (header_mark (node.Coord (suc n)) (found (suc n)).records)))
    (both _ _ (header_told (seen_after seen (coord_headers n found)) (node.Coord (suc n)) (found (suc n)).records (fresh (suc n)))
    (coords_kept (seen_after seen (coord_headers n found)) (header_mark (node.Coord (suc n)) (found (suc n)).records) n (coords_told seen found fresh n)))

-- ---- the group is read

module _ (head : Head) where
  pub marks_read : (a : Account) (seen : List Node) (marks : List Mark) (rest : List Item) →
      read_from (Some (record { place = InHead head seen false; account = a })) (numbered 1 (map item.Log marks) ++ rest) ≡ read_from (Some (record { place = InHead head (seen_after seen marks) false; account = a })) rest
  marks_read a seen [] rest = refl
  marks_read a seen (mark ∷ marks) rest = marks_read a (with_header seen mark) marks rest

  module _ (fm fc : ℕ → Found) (fresh_members : (m : ℕ) → (fm m).records ≡ []) (fresh_coords : (c : ℕ) → (fc c).records ≡ []) where
    abbrev pub headers : List Mark
    headers = member_headers (length head.kinds) fm ++ coord_headers head.coords fc

    pub all_told : (seen : List Node) → has_headers (seen_after seen headers) head ≡ true
    all_told seen =
        subst (λ ns. has_headers ns head ≡ true) (sym (seen_more seen (member_headers (length head.kinds) fm) (coord_headers head.coords fc)))
        (both _ _ (members_kept (seen_after seen (member_headers (length head.kinds) fm)) (coord_headers head.coords fc) (length head.kinds) (members_told seen fm fresh_members (length head.kinds)))
        (coords_told (seen_after seen (member_headers (length head.kinds) fm)) fc fresh_coords head.coords))

    pub read_head : (rest : List Item) →
        read_from (Some unread) (numbered 1 (item.Head head ∷ opening_items head.kinds head.coords fm fc) ++ rest) ≡ read_from (Some (record { place = Behind head 1; account = no_account })) rest
    read_head rest =
        ap (read_from (Some (record { place = InHead head [] false; account = no_account }))) (numbered_more 1 (map item.Log headers) (item.Answered answer.Opened ∷ []) rest)
        ∙ marks_read no_account [] headers (numbered 1 (item.Answered answer.Opened ∷ []) ++ rest)
        ∙ ap (λ b. read_from (if b then at_place (Behind head 1) (Some no_account) else None) rest) (all_told [])

  -- ---- the group behind records: the header of no node is wanted

  front_has : (more seen : List Node) (at : Node) → has_node seen at ≡ true → has_node (more ++ seen) at ≡ true
  front_has [] seen at h = h
  front_has (n ∷ more) seen at h = by (front_has more seen at h) (same_node n at)
    where
      by : has_node (more ++ seen) at ≡ true → (b : Bool) → (b || has_node (more ++ seen) at) ≡ true
      by rest true = refl
      by rest false = rest

  members_in : (n : ℕ) (more : List Node) → has_members (members_to n ++ more) n ≡ true
  members_in zero more = refl
  members_in (suc n) more =
      both (has_node (members_to (suc n) ++ more) (node.Member (suc n))) (has_members (members_to (suc n) ++ more) n)
      (longer_has (members_to (suc n)) more (node.Member (suc n)) (last_has (members_to n) (node.Member (suc n))))
      (subst (λ ns. has_members ns n ≡ true) (sym (append_assoc (members_to n) (node.Member (suc n) ∷ []) more)) (members_in n (node.Member (suc n) ∷ more)))

  longer_coords : (seen more : List Node) (n : ℕ) → has_coords seen n ≡ true → has_coords (seen ++ more) n ≡ true
  longer_coords seen more zero h = refl
  longer_coords seen more (suc n) h =
      let p = parts (has_node seen (node.Coord (suc n))) (has_coords seen n) h in
      both (has_node (seen ++ more) (node.Coord (suc n))) (has_coords (seen ++ more) n) (longer_has seen more (node.Coord (suc n)) p.0) (longer_coords seen more n p.1)

  coords_in : (n : ℕ) → has_coords (coords_to n) n ≡ true
  coords_in zero = refl
  coords_in (suc n) =
      both (has_node (coords_to (suc n)) (node.Coord (suc n))) (has_coords (coords_to (suc n)) n) (last_has (coords_to n) (node.Coord (suc n)))
      (longer_coords (coords_to n) (node.Coord (suc n) ∷ []) n (coords_in n))

  coords_behind : (more seen : List Node) (n : ℕ) → has_coords seen n ≡ true → has_coords (more ++ seen) n ≡ true
  coords_behind more seen zero h = refl
  coords_behind more seen (suc n) h =
      let p = parts (has_node seen (node.Coord (suc n))) (has_coords seen n) h in
      both (has_node (more ++ seen) (node.Coord (suc n))) (has_coords (more ++ seen) n) (front_has more seen (node.Coord (suc n)) p.0) (coords_behind more seen n p.1)

  all_named : (marks : List Mark) → has_headers (seen_after (nodes_of head) marks) head ≡ true
  all_named marks =
      both _ _ (members_kept (nodes_of head) marks (length head.kinds) (members_in (length head.kinds) (coords_to head.coords)))
      (coords_kept (nodes_of head) marks head.coords (coords_behind (members_to (length head.kinds)) (coords_to head.coords) head.coords (coords_in head.coords)))

  -- what opening tells over any logs
  pub read_opening : (fm fc : ℕ → Found) (rest : List Item) →
      read_from (Some (record { place = InHead head (nodes_of head) false; account = no_account })) (numbered 1 (opening_items head.kinds head.coords fm fc) ++ rest)
      ≡ read_from (Some (record { place = Behind head 1; account = no_account })) rest
  read_opening fm fc rest =
      let marks = member_headers (length head.kinds) fm ++ coord_headers head.coords fc in
      ap (read_from (Some (record { place = InHead head (nodes_of head) false; account = no_account }))) (numbered_more 1 (map item.Log marks) (item.Answered answer.Opened ∷ []) rest)
      ∙ marks_read no_account (nodes_of head) marks (numbered 1 (item.Answered answer.Opened ∷ []) ++ rest)
      ∙ ap (λ b. read_from (if b then at_place (Behind head 1) (Some no_account) else None) rest) (all_named marks)
