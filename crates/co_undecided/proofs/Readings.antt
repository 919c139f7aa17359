-- What the entry of a transaction tells, by what it did, its vote and its mark.
use Rattle.std.proofs.Common.{◌≡◌, true, List, Option, None, Some, is_some, refl, sym}
use Rattle.co_state.specs.declared.engine_state.Operation.{Operation}
use Rattle.co_state.specs.declared.engine_state.Vote.{Vote}
use Rattle.co_plain.specs.declared.member_state.AskedMark.{AskedMark}
use Rattle.co_undecided.specs.Kept.{asked_in, coord_in, coord_asked, voted_in_entry, entry_of, mark_of}

-- a mark is on an active transaction, which has not voted
pub mark_is : (os : Option (List Operation)) (vote : Option Vote) (mark : Option AskedMark) → (is_some vote ≡ true → os ≡ None) → (os ≡ None → mark ≡ None) →
    asked_in (entry_of os vote mark) ≡ mark
mark_is os (Some vote) mark apart marks = sym (marks (apart refl))
mark_is (Some os) None mark apart marks = refl
mark_is None None mark apart marks = sym (marks refl)

pub coord_is : (os : Option (List Operation)) (vote : Option Vote) (mark : Option AskedMark) → coord_in (entry_of os vote mark) ≡ coord_asked vote
coord_is os (Some vote) mark = refl
coord_is (Some os) None mark = refl
coord_is None None mark = refl

pub vote_is : (os : Option (List Operation)) (vote : Option Vote) (mark : Option AskedMark) → voted_in_entry (entry_of os vote mark) ≡ mark_of os vote
vote_is os (Some vote) mark = refl
vote_is (Some os) None mark = refl
vote_is None None mark = refl
