-- Each front of a transcript can be made whole: where it stands says which items are missing.
use Rattle.std.proofs.Common.{◌≡◌, ℕ, zero, suc, ◌+◌, ◌≤◌, ◌==◌, Bool, true, false, ◌&&◌, List, [], ◌∷◌, ◌++◌, length, map, Option, None, Some, if◌then◌else◌, refl, ap, ◌∙◌, subst, arith, eqb-true}
use Rattle.std.specs.List.{AllByRecursion}
use Rattle.co_base.specs.Limits.{most_coordinators, most_members}
use Rattle.co_base.specs.declared.head.Head.{Head}
use Rattle.co_base.specs.declared.head.Kind.TheVariants as kinds
use Rattle.co_base.specs.declared.mark.Mark.{Mark}
use Rattle.co_base.specs.declared.node.Node.{Node}
use Rattle.co_message.specs.declared.answer.Answer.TheVariants as answer
use Rattle.co_message.specs.declared.item.Item.{Item}
use Rattle.co_message.specs.declared.item.ItemKind.{ItemKind}
use Rattle.co_message.specs.declared.item.ItemKind.TheVariants as item
use Rattle.co_plain.specs.Opening.{Found, fresh, member_headers, coord_headers}
use Rattle.co_plain.specs.Runs.{numbered}
use Rattle.co_transcript.specs.Items.{IsItem, IsMark}
use Rattle.co_check.specs.Account.{Account, replied, marked}
use Rattle.co_check.specs.Shape.{Read, unread, read, read_from, next, next_of, told_at, number_at, at_place, is_open, opens, sends, fits, has_headers, is_whole}
use Rattle.co_check.specs.declared.place.Place.{Place}
use Rattle.co_check.specs.declared.place.Place.TheVariants.{AtFront, InHead, InGroup, Behind}
use Rattle.co_law_items.proofs.Named.{all_append}
use Rattle.co_law_check.specs.Whole.{CanBeWhole}
use Rattle.co_law_check.proofs.Groups.{counts}
use Rattle.co_law_check.proofs.Heads.{marks_read, seen_after, headers, all_told}

-- ---- what is known of a place

-- behind a message of the head's group every header was told, and a group has a number that a line has
abbrev IsSound : Place → Type 0
IsSound AtFront = Unit {0}
IsSound (InHead head seen false) = Unit {0}
IsSound (InHead head seen true) = has_headers seen head ≡ true
IsSound (InGroup head number e sending) = number ≤ 4294967295
IsSound (Behind head number) = Unit {0}

guarded : (b : Bool) (o : Option Read) (after : Read) → (if b then o else None) ≡ Some after → (b ≡ true) × (o ≡ Some after)
guarded true o after e = (refl, e)
guarded false o after e = absurd (let z : None ≡ Some after = e in cc)

placed : (place : Place) (o : Option Account) (after : Read) → at_place place o ≡ Some after → place ≡ after.place
placed place None after e = absurd (let z : None ≡ Some after = e in cc)
placed place (Some a) after e = let z : Some (record { place = place; account = a }) ≡ Some after = e in let same : record { place = place; account = a } ≡ after = cc in ap (λ r. r.place) same

no_place : (after : Read) (P : Type 0) → None ≡ Some after → P
no_place after P e = absurd (let z : None ≡ Some after = e in cc)

at_sound : (place : Place) (o : Option Account) (after : Read) → IsSound place → at_place place o ≡ Some after → IsSound after.place
at_sound place o after s e = subst IsSound (placed place o after e) s

told_sound : (a : Account) (place : Place) (what : ItemKind) (after : Read) → number_at place ≤ 4294967295 → told_at a place what ≡ Some after → IsSound after.place
told_sound a AtFront (item.Head head) after bound e = at_sound (InHead head [] false) (Some a) after tt e
told_sound a AtFront (item.Event event) after bound e = no_place after _ e
told_sound a AtFront (item.Log mark) after bound e = no_place after _ e
told_sound a AtFront (item.Sent sent) after bound e = no_place after _ e
told_sound a AtFront (item.Answered said) after bound e = no_place after _ e
told_sound a (InHead head seen sending) (item.Head other) after bound e = by sending e
  where
    by : (b : Bool) → told_at a (InHead head seen b) (item.Head other) ≡ Some after → IsSound after.place
    by true k = no_place after _ k
    by false k = no_place after _ k
told_sound a (InHead head seen sending) (item.Event event) after bound e = by sending e
  where
    by : (b : Bool) → told_at a (InHead head seen b) (item.Event event) ≡ Some after → IsSound after.place
    by true k = no_place after _ k
    by false k = no_place after _ k
told_sound a (InHead head seen true) (item.Log mark) after bound e = no_place after _ e
told_sound a (InHead head seen false) (item.Log mark) after bound e = at_sound _ (Some a) after tt e
told_sound a (InHead head seen sending) (item.Sent sent) after bound e = by sending e
  where
    here : sends a head seen ≡ Some after → IsSound after.place
    here k = let g = guarded (has_headers seen head) (at_place (InHead head seen true) (Some a)) after k in at_sound (InHead head seen true) (Some a) after g.0 g.1

    by : (b : Bool) → told_at a (InHead head seen b) (item.Sent sent) ≡ Some after → IsSound after.place
    by true k = here k
    by false k = here k
told_sound a (InHead head seen sending) (item.Answered said) after bound e = by sending e
  where
    here : opens a head seen said ≡ Some after → IsSound after.place
    here k = at_sound (Behind head 1) (Some a) after tt (guarded (is_open said && has_headers seen head) (at_place (Behind head 1) (Some a)) after k).1

    by : (b : Bool) → told_at a (InHead head seen b) (item.Answered said) ≡ Some after → IsSound after.place
    by true k = here k
    by false k = here k
told_sound a (InGroup head number event sending) (item.Head other) after bound e = by sending e
  where
    by : (b : Bool) → told_at a (InGroup head number event b) (item.Head other) ≡ Some after → IsSound after.place
    by true k = no_place after _ k
    by false k = no_place after _ k
told_sound a (InGroup head number event sending) (item.Event other) after bound e = by sending e
  where
    by : (b : Bool) → told_at a (InGroup head number event b) (item.Event other) ≡ Some after → IsSound after.place
    by true k = no_place after _ k
    by false k = no_place after _ k
told_sound a (InGroup head number event true) (item.Log mark) after bound e = no_place after _ e
told_sound a (InGroup head number event false) (item.Log mark) after bound e = at_sound (InGroup head number event false) (marked a mark) after bound e
told_sound a (InGroup head number event sending) (item.Sent sent) after bound e = by sending e
  where
    by : (b : Bool) → told_at a (InGroup head number event b) (item.Sent sent) ≡ Some after → IsSound after.place
    by true k = at_sound (InGroup head number event true) (Some a) after bound k
    by false k = at_sound (InGroup head number event true) (Some a) after bound k
told_sound a (InGroup head number event sending) (item.Answered said) after bound e = by sending e
  where
    by : (b : Bool) → told_at a (InGroup head number event b) (item.Answered said) ≡ Some after → IsSound after.place
    by true k = at_sound (Behind head number) (replied a number event said) after tt k
    by false k = at_sound (Behind head number) (replied a number event said) after tt k
told_sound a (Behind head number) (item.Event event) after bound e =
    at_sound (InGroup head (number + 1) event false) (Some a) after bound (guarded (fits head event) (at_place (InGroup head (number + 1) event false) (Some a)) after e).1
told_sound a (Behind head number) (item.Head other) after bound e = no_place after _ e
told_sound a (Behind head number) (item.Log mark) after bound e = no_place after _ e
told_sound a (Behind head number) (item.Sent sent) after bound e = no_place after _ e
told_sound a (Behind head number) (item.Answered said) after bound e = no_place after _ e

next_sound : (r : Read) (it : Item) (after : Read) → IsItem it → next r it ≡ Some after → IsSound after.place
next_sound r it after i e =
    let g = guarded (it.number == number_at r.place) (told_at r.account r.place it.what) after e in
    told_sound r.account r.place it.what after (subst (λ n. n ≤ 4294967295) (eqb-true it.number (number_at r.place) g.0) i.0) g.1

read_sound : (o : Option Read) (items : List Item) (after : Read) → ((r : Read) → o ≡ Some r → IsSound r.place) → AllByRecursion IsItem items → read_from o items ≡ Some after → IsSound after.place
read_sound o [] after s all e = s after e
read_sound o (it ∷ items) after s all e = read_sound (next_of o it) items after (by o) all.1 e
  where
    by : (q : Option Read) (r : Read) → next_of q it ≡ Some r → IsSound r.place
    by None r k = no_place r _ k
    by (Some q) r k = next_sound q it r all.0 k

-- ---- what makes it whole

record IsCompleted (r : Read) : Type 0 where
  more : List Item
  lines : AllByRecursion IsItem more
  end : Read
  shaped : read_from (Some r) more ≡ Some end
  whole : is_whole end.place ≡ true

read_more : (o : Option Read) (xs ys : List Item) → read_from o (xs ++ ys) ≡ read_from (read_from o xs) ys
read_more o [] ys = refl
read_more o (x ∷ xs) ys = read_more (next_of o x) xs ys

abbrev no_log : ℕ → Found
no_log n = fresh

members_marks : (n : ℕ) → n ≤ most_members → AllByRecursion IsMark (member_headers n no_log)
members_marks zero h = tt
members_marks (suc n) h = all_append IsMark (member_headers n no_log) _ (members_marks n (omega (arith, h))) (((omega arith, h), omega arith), tt)

coords_marks : (n : ℕ) → n ≤ most_coordinators → AllByRecursion IsMark (coord_headers n no_log)
coords_marks zero h = tt
coords_marks (suc n) h = all_append IsMark (coord_headers n no_log) _ (coords_marks n (omega (arith, h))) (((omega arith, h), omega arith), tt)

logs_items : (marks : List Mark) → AllByRecursion IsMark marks → AllByRecursion IsItem (numbered 1 (map item.Log marks))
logs_items [] all = tt
logs_items (mark ∷ marks) all = ((omega arith, all.0), logs_items marks all.1)

abbrev opened_item : List Item
opened_item = numbered 1 (item.Answered answer.Opened ∷ [])

opened_read : (a : Account) (head : Head) (seen : List Node) (sending : Bool) → has_headers seen head ≡ true →
    read_from (Some (record { place = InHead head seen sending; account = a })) opened_item ≡ Some (record { place = Behind head 1; account = a })
opened_read a head seen true h = ap (λ b. read_from (if b then at_place (Behind head 1) (Some a) else None) []) h
opened_read a head seen false h = ap (λ b. read_from (if b then at_place (Behind head 1) (Some a) else None) []) h

module _ (a : Account) (head : Head) where
  abbrev head_marks : List Mark
  head_marks = headers head no_log no_log (λ m. refl) (λ c. refl)

  abbrev head_more : List Item
  head_more = numbered 1 (map item.Log head_marks) ++ opened_item

  head_lines : AllByRecursion IsItem head_more
  head_lines = all_append IsItem (numbered 1 (map item.Log head_marks)) opened_item
      (logs_items head_marks (all_append IsMark (member_headers (length head.kinds) no_log) (coord_headers head.coords no_log) (members_marks (length head.kinds) head.members) (coords_marks head.coords head.coordinators)))
      ((omega arith, tt), tt)

  head_read : (seen : List Node) → read_from (Some (record { place = InHead head seen false; account = a })) head_more ≡ Some (record { place = Behind head 1; account = a })
  head_read seen = marks_read head a seen head_marks opened_item ∙ opened_read a head (seen_after seen head_marks) false (all_told head no_log no_log (λ m. refl) (λ c. refl) seen)

abbrev some_head : Head
some_head = record { kinds = kinds.Lock ∷ []; coords = 1; some_member = omega arith; members = omega arith; some_coord = omega arith; coordinators = omega arith }

completed : (place : Place) (a : Account) → IsSound place → IsCompleted (record { place = place; account = a })
completed AtFront a s = record {
  more = record { number = 1; what = item.Head some_head } ∷ head_more a some_head;
  lines = ((omega arith, tt), head_lines a some_head);
  end = record { place = Behind some_head 1; account = a };
  shaped = head_read a some_head [];
  whole = refl;
}
completed (InHead head seen false) a s = record { more = head_more a head; lines = head_lines a head; end = record { place = Behind head 1; account = a }; shaped = head_read a head seen; whole = refl }
completed (InHead head seen true) a s = record { more = opened_item; lines = ((omega arith, tt), tt); end = record { place = Behind head 1; account = a }; shaped = opened_read a head seen true s; whole = refl }
completed (InGroup head number event sending) a s = by sending
  where
    idle : List Item
    idle = record { number = number; what = item.Answered answer.Idle } ∷ []

    by : (b : Bool) → IsCompleted (record { place = InGroup head number event b; account = a })
    by true = record { more = idle; lines = ((s, tt), tt); end = record { place = Behind head number; account = a }; shaped = counts number (Some (record { place = Behind head number; account = a })) []; whole = refl }
    by false = record { more = idle; lines = ((s, tt), tt); end = record { place = Behind head number; account = a }; shaped = counts number (Some (record { place = Behind head number; account = a })) []; whole = refl }
completed (Behind head number) a s = record { more = []; lines = tt; end = record { place = Behind head number; account = a }; shaped = refl; whole = refl }

pub can_be_whole : (items : List Item) (stands : Read) → AllByRecursion IsItem items → read items ≡ Some stands → CanBeWhole items
can_be_whole items stands all e =
    let sound = read_sound (Some unread) items stands (λ r same. let z : Some unread ≡ Some r = same in let is : unread ≡ r = cc in subst (λ q. IsSound q.place) is tt) all e in
    let c = completed stands.place stands.account sound in
    record { more = c.more; lines = c.lines; end = c.end; shaped = read_more (Some unread) items c.more ∙ ap (λ o. read_from o c.more) e ∙ c.shaped; whole = c.whole }
