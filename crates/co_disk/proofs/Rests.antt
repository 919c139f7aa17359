-- Calls one after another leave the rest of the home.
use Rattle.std.proofs.Common.{◌≡◌, refl, ◌∙◌, arith}
use Rattle.std.specs.Prelude.{Option, Some, None, IsSome}
use Rattle.co_outside.specs.declared.spot.Spot.{Spot}
use Rattle.co_outside.specs.Home.{File, HomeView, RestStays, HasFailed}

-- a told file goes on to be told
told_still : (o x : Option File) → ((f : File) → o ≡ Some f → IsSome x) → IsSome o → IsSome x
told_still None x still some = absurd (cc)
told_still (Some f) x still some = still f refl

module _ (spot : Spot) where
  pub rest_here : (old : HomeView) → RestStays spot old old
  rest_here old = record {
    others = record { files = λ s other. refl; reaches = λ s other. refl; directory = refl };
    count = omega arith;
    told = λ f told. some_told (old.file spot) f told;
  }
    where
      some_told : (o : Option File) (f : File) → o ≡ Some f → IsSome o
      some_told None f e = absurd (cc)
      some_told (Some g) f e = refl

  pub rest_then : (old mid new : HomeView) → RestStays spot old mid → RestStays spot mid new → RestStays spot old new
  rest_then old mid new first second = record {
    others = record {
      files = λ s other. second.others.files s other ∙ first.others.files s other;
      reaches = λ s other. second.others.reaches s other ∙ first.others.reaches s other;
      directory = second.others.directory ∙ first.others.directory;
    };
    count = omega (arith, first.count, second.count);
    told = λ f told. told_still (mid.file spot) (new.file spot) second.told (first.told f told);
  }

  pub failed_later : (old mid new : HomeView) → RestStays spot old mid → HasFailed spot mid new → HasFailed spot old new
  failed_later old mid new first failed = record { count = omega (arith, first.count, failed.count); named = failed.named }
