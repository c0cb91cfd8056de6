-- Laws of a field's number: it is what two's complement says, it is small, and it keeps order and differences.
use Rattle.std.specs.Prelude.{ℕ, zero, suc, ◌+◌, ◌-◌, ◌%◌, ◌≤◌, ◌<◌, ◌≡◌, refl, Bool, true, false, cond, ltb, ℤ, pos, negsuc, ◌-ℤ◌, ◌≤ℤ◌}
use Rattle.std.proofs.Common.{arith, le→leb, ltb-true, ltb-false, lt-ltb, le-ltb}
use Rattle.std.proofs.Math.IntN.{sub_ℕ}
use Rattle.std.specs.Int.{w16}
use mir.Val.{to_z, sel}
use Rattle.cursor.specs.Cursor.{shifted, signed_of}
use Rattle.cursor_laws.specs.Right.{Small}

-- the number of the field w, by the sign
abbrev signed : Bool → ℕ → ℤ
signed b w = cond b (negsuc (32768 - suc w)) (pos (w - 32768))

twos_cases : (b : Bool) (w : ℕ) → ltb w 32768 ≡ b → w < 65536 → signed_of (shifted w) ≡ sel b (pos w) (negsuc (65536 - suc w))
unfolding signed_of shifted
twos_cases true w e h =
    let v = ltb-true w 32768 e in
    let m : (w + 32768) % 65536 ≡ w + 32768 = omega arith in
    let t : ltb (w + 32768) 32768 ≡ false = le-ltb (w + 32768) 32768 (omega arith) in
    let d : w + 32768 - 32768 ≡ w = omega arith in
    simp (m, t, d)
twos_cases false w e h =
    let v = ltb-false w 32768 e in
    let m : (w + 32768) % 65536 ≡ w - 32768 = omega arith in
    let t : ltb (w - 32768) 32768 ≡ true = lt-ltb (w - 32768) 32768 (omega arith) in
    let d : 32768 - suc (w - 32768) ≡ 65536 - suc w = omega arith in
    simp (m, t, d)

-- the number of a signed field is what two's complement says of its two bytes
pub number_is : (w : ℕ) → w < 65536 → signed_of (shifted w) ≡ to_z w16 w
number_is w h = twos_cases (ltb w 32768) w refl h

small_cases : (b : Bool) (w : ℕ) → ltb w 32768 ≡ b → 31768 ≤ w → w ≤ 33768 → Small (signed b w)
small_cases true w e l h = record { least = record { le = le→leb (32768 - suc w) 999 (omega arith) }; most = record { le = tt } }
small_cases false w e l h = record { least = record { le = tt }; most = record { le = le→leb (w - 32768) 1000 (omega arith) } }

pub small_number : (w : ℕ) → (31768 ≤ w) × (w ≤ 33768) → Small (signed_of w)
unfolding signed_of
small_number w h = small_cases (ltb w 32768) w refl h.0 h.1

order_cases : (b c : Bool) (l h : ℕ) → ltb l 32768 ≡ b → ltb h 32768 ≡ c → l ≤ h → signed b l ≤ℤ signed c h
order_cases true true l h e f le = record { le = le→leb (32768 - suc h) (32768 - suc l) (omega arith) }
order_cases true false l h e f le = record { le = tt }
order_cases false true l h e f le = absurd (omega (arith, ltb-false l 32768 e, ltb-true h 32768 f))
order_cases false false l h e f le = record { le = le→leb (l - 32768) (h - 32768) (omega arith) }

pub number_order : (l h : ℕ) → l ≤ h → signed_of l ≤ℤ signed_of h
unfolding signed_of
number_order l h le = order_cases (ltb l 32768) (ltb h 32768) l h refl refl le

most_cases : (b : Bool) (x y m : ℕ) → x - y ≤ m → cond b (negsuc (y - suc x)) (pos (x - y)) ≤ℤ pos m
most_cases true x y m h = record { le = tt }
most_cases false x y m h = record { le = le→leb (x - y) m h }

sub_most : (x y m : ℕ) → x - y ≤ m → sub_ℕ x y ≤ℤ pos m
sub_most x y m h = most_cases (ltb x y) x y m h

pos_most : (x y m : ℕ) → x - y ≤ m → (pos x -ℤ pos y) ≤ℤ pos m
pos_most x zero m h = record { le = le→leb (x + 0) m (omega arith) }
pos_most x (suc y) m h = sub_most x (suc y) m h

width_cases :
    (b c : Bool) (l h : ℕ) → ltb l 32768 ≡ b → ltb h 32768 ≡ c → l ≤ h → h - l ≤ 63 → (signed c h -ℤ signed b l) ≤ℤ pos 63
width_cases true true l h e f le w =
    sub_most (suc (32768 - suc l)) (suc (32768 - suc h)) 63 (omega (arith, ltb-true l 32768 e, ltb-true h 32768 f))
width_cases true false l h e f le w =
    record { le = le→leb (h - 32768 + suc (32768 - suc l)) 63 (omega (arith, ltb-true l 32768 e, ltb-false h 32768 f)) }
width_cases false true l h e f le w = absurd (omega (arith, ltb-false l 32768 e, ltb-true h 32768 f))
width_cases false false l h e f le w =
    pos_most (h - 32768) (l - 32768) 63 (omega (arith, ltb-false l 32768 e, ltb-false h 32768 f))

pub number_width : (l h : ℕ) → l ≤ h → h - l ≤ 63 → (signed_of h -ℤ signed_of l) ≤ℤ pos 63
unfolding signed_of
number_width l h le w = width_cases (ltb l 32768) (ltb h 32768) l h refl refl le w
