-- Laws of tests: when two hold, and when two are the same.
use Rattle.std.specs.Prelude.{◌≡◌, refl, Bool, true, false, ◌&&◌}
use Rattle.std.proofs.Common.{sym}

pub and_left : (b d : Bool) → (b && d) ≡ true → b ≡ true
and_left true d h = refl
and_left false d h = h

pub and_right : (b d : Bool) → (b && d) ≡ true → d ≡ true
and_right true d h = h
and_right false true h = refl
and_right false false h = h

pub and_both : (b d : Bool) → b ≡ true → d ≡ true → (b && d) ≡ true
and_both true d h k = k
and_both false d h k = h

pub same_test : (a b : Bool) → (a ≡ true → b ≡ true) → (b ≡ true → a ≡ true) → a ≡ b
same_test true b f g = sym (f refl)
same_test false true f g = g refl
same_test false false f g = refl
