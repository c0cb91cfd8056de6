-- A guard whose fields are all right, and which does not pass the end, read straight from its bytes.
use Rattle.std.specs.Prelude.{ℕ, ◌+◌, ◌*◌, ◌≤◌, ◌<◌, ◌≡◌, List, Bool, cond, ◌&&◌, ltb, ℤ, get_or}
use Rattle.std.proofs.Math.Path.{refl, sym}
use Rattle.std.proofs.Common.{subst, ◌∙◌}
use Rattle.std.proofs.Math.Bool.{true}
use native.Mathlib.Omega.{arith}
use Rattle.std.proofs.Math.Numerals.{add-one}
use Rattle.std.proofs.Math.ListN.{set}
use borrow.Author.Tests.{lt-ltb, le-ltb, le-leb, lt-leb}
use Rattle.expr.specs.Records.{PARAMETERS}
use Rattle.integer.specs.Bools.{and_left, and_right}
use Rattle.cursor.specs.declared.Cursor.{Cursor}
use Rattle.cursor.specs.Cursor.{within, shifted, advanced, advanced_word, judged, byte_field, number_field, zero_field, signed_of, iterate}
use Rattle.cursor_laws.specs.Laws.{within_true, byte_field_taken, signed_field_taken}
use Rattle.cursor_laws.specs.Counted.{beyond, idle}
use Rattle.expr.specs.declared.number.Expr.{Expr}
use Rattle.expr.specs.declared.bound.Bound.{Bound}
use Rattle.guards.specs.declared.Guard.{Guard}
use Rattle.guards.specs.declared.CoefsAt.{CoefsAt}
use Rattle.guards.specs.Guards.{one_zero, right_field, coef_step, zero_coefs, coefs_at, zero_step, zeros_at, guard_at}
use Rattle.guards.specs.Guards.{guard_bound, guard_expr}

-- the number of the signed field at a place, plus 32,768
unfoldable pub number_at : List ℕ → ℕ → ℕ
number_at s at = shifted (get_or s at 0 + 256 * get_or s (at + 1) 0)

-- the fields before the coefficients are right
unfoldable pub head_right : ℕ → ℕ → ℕ → ℕ → ℕ → ℕ → Bool
head_right clocks a b relation zeroByte constant =
    within 0 a clocks &&
    (within 0 b clocks && (one_zero a b && (within 0 relation 1 && (within 0 zeroByte 0 && within 31768 constant 33768))))

module _ (s : List ℕ) (end most parameters at constant : ℕ) where
  abbrev coefs_to : ℕ → CoefsAt
  coefs_to i = iterate (coef_step s end parameters) (record { cursor = advanced_word at constant; coefs = zero_coefs }) i

  -- after i coefficients: those that were read, and where reading stands
  pub record Kept (i word : ℕ) (coefs : List ℤ) : Type 0 where
    pub list : (coefs_to i).coefs ≡ coefs
    pub cursor : iterate (zero_step s end most parameters) (coefs_to i).cursor i ≡ advanced_word (at + 2 * i) word

  pub kept_start : Kept 0 constant zero_coefs
  unfolding iterate
  kept_start =
      let e : at + 2 * 0 ≡ at = omega arith in
      record { list = refl; cursor = rw e refl }

  zero_idle : (i : ℕ) (c : Cursor) → i < parameters → zero_step s end most parameters i c ≡ c
  unfolding zero_step
  zero_idle i c h =
      let t = lt-leb parameters i h in
      rw t refl

  -- no zeros before the sheet's parameters
  no_zeros : (i : ℕ) (c : Cursor) → i ≤ parameters → iterate (zero_step s end most parameters) c i ≡ c
  no_zeros i c h = idle (zero_step s end most parameters) c i (λ k x l. zero_idle k x (omega arith))

  pub kept_coef :
      (i word w : ℕ) (coefs : List ℤ) → i < parameters → i < most → at + 2 * most ≤ end → Kept i word coefs →
      w ≡ number_at s (at + 2 * i) → within 31768 w 33768 ≡ true → Kept (i + 1) w (set coefs i (signed_of w))
  unfolding iterate coef_step number_at
  kept_coef i word w coefs h m l k e r =
      let t = lt-ltb i parameters h in
      let here : (coefs_to i).cursor ≡ advanced_word (at + 2 * i) word = sym (no_zeros i (coefs_to i).cursor (omega arith)) ∙ k.cursor in
      let r' : within 31768 (number_at s (at + 2 * i)) 33768 ≡ true = rw e at r in
      let field : number_field s end (coefs_to i).cursor ≡ advanced_word (at + 2 * i + 2) (number_at s (at + 2 * i)) =
      rw here (signed_field_taken s end 31768 33768 (at + 2 * i) (advanced_word (at + 2 * i) word) refl refl (omega arith) r') in
      let next : at + 2 * (i + 1) ≡ at + 2 * i + 2 = omega arith in
      let none = no_zeros (i + 1) (advanced_word (at + 2 * i + 2) (number_at s (at + 2 * i))) (omega arith) in
      let done : coefs_to (i + 1) ≡ record {
        cursor = advanced_word (at + 2 * i + 2) (number_at s (at + 2 * i));
        coefs = set coefs i (signed_of (number_at s (at + 2 * i)));
      } = rw add-one (rw t (rw (field, k.list) refl)) in
      record { list = rw done (rw e refl); cursor = rw done (rw (next, e) none) }

  pub kept_zero :
      (i word w : ℕ) (coefs : List ℤ) → parameters ≤ i → i < most → at + 2 * most ≤ end → Kept i word coefs →
      w ≡ number_at s (at + 2 * i) → within 32768 w 32768 ≡ true → Kept (i + 1) w coefs
  unfolding iterate coef_step zero_step number_at
  kept_zero i word w coefs h m l k e r =
      let t = le-ltb i parameters h in
      let t' = le-leb parameters i h in
      let t'' = lt-ltb i most m in
      let r' : within 32768 (number_at s (at + 2 * i)) 32768 ≡ true = rw e at r in
      let next : at + 2 * (i + 1) ≡ at + 2 * i + 2 = omega arith in
      let same : coefs_to (i + 1) ≡ coefs_to i = rw add-one (rw t refl) in
      let field : zero_field s end (advanced_word (at + 2 * i) word) ≡ advanced_word (at + 2 * i + 2) (number_at s (at + 2 * i)) =
      signed_field_taken s end 32768 32768 (at + 2 * i) (advanced_word (at + 2 * i) word) refl refl (omega arith) r' in
      record {
        list = rw same k.list;
        cursor = rw same (rw (next, e) (rw add-one (rw (t', t'') (rw k.cursor field))));
      }

  -- all coefficients
  pub kept_all :
      (word : ℕ) (coefs : List ℤ) → parameters ≤ most → most ≤ PARAMETERS → Kept most word coefs →
      ((coefs_at s end parameters (advanced_word at constant)).coefs ≡ coefs) ×
      (zeros_at s end most parameters (coefs_at s end parameters (advanced_word at constant)).cursor ≡ advanced_word (at + 2 * most) word)
  unfolding coefs_at zeros_at coef_step zero_step
  kept_all word coefs p m k =
      let all : coefs_to PARAMETERS ≡ coefs_to most =
      beyond (coef_step s end parameters) (record { cursor = advanced_word at constant; coefs = zero_coefs }) most PARAMETERS m
      (λ i x h. let t = le-ltb i parameters (omega arith) in rw t refl) in
      let zeros : (c : Cursor) → iterate (zero_step s end most parameters) c PARAMETERS ≡ iterate (zero_step s end most parameters) c most =
      λ c. beyond (zero_step s end most parameters) c most PARAMETERS m
      (λ i x h. let t = le-ltb i most h in let t' = le-leb parameters i (omega arith) in rw (t, t') refl) in
      (rw all k.list, rw all (zeros (coefs_to most).cursor ∙ k.cursor))

-- ---- the two loops over the coefficients

-- after the first i coefficients of the sheet's parameters
abbrev pub CoefsKept : List ℕ → ℕ → ℕ → ℕ → ℕ → ℕ → List ℤ → Type 0
CoefsKept s parameters at constant i word list =
    (end most : ℕ) → parameters ≤ most → at + 2 * most ≤ end → Kept s end most parameters at constant i word list

pub coefs_begun : (s : List ℕ) (parameters at constant : ℕ) → CoefsKept s parameters at constant 0 constant zero_coefs
coefs_begun s parameters at constant end most p l = kept_start s end most parameters at constant

pub coefs_more :
    (s : List ℕ) (parameters at constant i word w : ℕ) (b : Bool) (list : List ℤ) (x : ℤ) → i < parameters →
    CoefsKept s parameters at constant i word list → w ≡ number_at s (at + 2 * i) → b ≡ within 31768 w 33768 → b ≡ true → x ≡ signed_of w →
    CoefsKept s parameters at constant (i + 1) w (set list i x)
coefs_more s parameters at constant i word w b list x h k e r t f end most p l =
    rw f (kept_coef s end most parameters at constant i word w list h (omega arith) l (k end most p l) e (sym r ∙ t))

pub coefs_done :
    (s : List ℕ) (parameters at constant i word : ℕ) (list : List ℤ) → i ≤ parameters → (i < parameters → ⊥) →
    CoefsKept s parameters at constant i word list → CoefsKept s parameters at constant parameters word list
coefs_done s parameters at constant i word list l g k =
    let e : i ≡ parameters = omega arith in
    subst (λ (n : ℕ). CoefsKept s parameters at constant n word list) e k

-- after the zeros up to the coefficient i
abbrev pub ZerosKept : List ℕ → ℕ → ℕ → ℕ → ℕ → Type 0
ZerosKept s most parameters at i =
    (end constant word : ℕ) (list : List ℤ) → at + 2 * most ≤ end → Kept s end most parameters at constant parameters word list →
    Kept s end most parameters at constant i (cond (ltb parameters i) 32768 word) list

pub zeros_begun : (s : List ℕ) (most parameters at : ℕ) → ZerosKept s most parameters at parameters
zeros_begun s most parameters at end constant word list l k =
    let t = le-ltb parameters parameters (omega arith) in
    rw t k

pub zeros_more :
    (s : List ℕ) (most parameters at i w : ℕ) (b : Bool) → parameters ≤ i → i < most → ZerosKept s most parameters at i →
    w ≡ number_at s (at + 2 * i) → b ≡ within 32768 w 32768 → b ≡ true → ZerosKept s most parameters at (i + 1)
zeros_more s most parameters at i w b p m z e r h end constant word list l k =
    let t = lt-ltb parameters (i + 1) (omega arith) in
    let right : within 32768 w 32768 ≡ true = sym r ∙ h in
    let ends = within_true 32768 w 32768 right in
    let low = ends.0 in
    let high = ends.1 in
    let same : w ≡ 32768 = omega arith in
    let next =
    kept_zero s end most parameters at constant i (cond (ltb parameters i) 32768 word) w list p m l
    (z end constant word list l k) e right in
    rw t (subst (λ (n : ℕ). Kept s end most parameters at constant (i + 1) n list) same next)

pub zeros_done :
    (s : List ℕ) (most parameters at i : ℕ) → i ≤ most → (i < most → ⊥) → ZerosKept s most parameters at i →
    ZerosKept s most parameters at most
zeros_done s most parameters at i l g z =
    let e : i ≡ most = omega arith in
    subst (ZerosKept s most parameters at) e z

-- ---- the fields of the head one after another
module _ (s : List ℕ) (end clocks at : ℕ) (cursor : Cursor) (o : cursor.ok ≡ true) (e : cursor.at ≡ at) (room : at + 6 ≤ end)
    (right :
    head_right clocks (get_or s at 0) (get_or s (at + 1) 0) (get_or s (at + 2) 0) (get_or s (at + 3) 0) (number_at s (at + 4)) ≡ true) where
  abbrev r0 : Bool
  r0 = within 0 (get_or s at 0) clocks

  abbrev r1 : Bool
  r1 = within 0 (get_or s (at + 1) 0) clocks

  abbrev r2 : Bool
  r2 = one_zero (get_or s at 0) (get_or s (at + 1) 0)

  abbrev r3 : Bool
  r3 = within 0 (get_or s (at + 2) 0) 1

  abbrev r4 : Bool
  r4 = within 0 (get_or s (at + 3) 0) 0

  abbrev r5 : Bool
  r5 = within 31768 (number_at s (at + 4)) 33768

  all : r0 && (r1 && (r2 && (r3 && (r4 && r5)))) ≡ true
  unfolding head_right
  all = right

  from1 : r1 && (r2 && (r3 && (r4 && r5))) ≡ true
  from1 = and_right r0 (r1 && (r2 && (r3 && (r4 && r5)))) all

  from2 : r2 && (r3 && (r4 && r5)) ≡ true
  from2 = and_right r1 (r2 && (r3 && (r4 && r5))) from1

  from3 : r3 && (r4 && r5) ≡ true
  from3 = and_right r2 (r3 && (r4 && r5)) from2

  from4 : r4 && r5 ≡ true
  from4 = and_right r3 (r4 && r5) from3

  pub first_is : byte_field s end 0 clocks cursor ≡ advanced (at + 1) (get_or s at 0)
  first_is = byte_field_taken s end 0 clocks at cursor o e (omega arith) (and_left r0 (r1 && (r2 && (r3 && (r4 && r5)))) all)

  pub second_is : right_field s end clocks (advanced (at + 1) (get_or s at 0)) ≡ advanced (at + 1 + 1) (get_or s (at + 1) 0)
  unfolding right_field judged
  second_is =
      let taken =
      byte_field_taken s end 0 clocks (at + 1) (advanced (at + 1) (get_or s at 0)) refl refl (omega arith)
      (and_left r1 (r2 && (r3 && (r4 && r5))) from1) in
      let one = and_left r2 (r3 && (r4 && r5)) from2 in
      rw taken (rw one refl)

  pub third_is : byte_field s end 0 1 (advanced (at + 1 + 1) (get_or s (at + 1) 0)) ≡ advanced (at + 2 + 1) (get_or s (at + 2) 0)
  third_is =
      byte_field_taken s end 0 1 (at + 2) (advanced (at + 1 + 1) (get_or s (at + 1) 0)) refl (omega arith) (omega arith)
      (and_left r3 (r4 && r5) from3)

  pub fourth_is : byte_field s end 0 0 (advanced (at + 2 + 1) (get_or s (at + 2) 0)) ≡ advanced (at + 3 + 1) (get_or s (at + 3) 0)
  fourth_is =
      byte_field_taken s end 0 0 (at + 3) (advanced (at + 2 + 1) (get_or s (at + 2) 0)) refl (omega arith) (omega arith)
      (and_left r4 r5 from4)

  pub constant_is : number_field s end (advanced (at + 3 + 1) (get_or s (at + 3) 0)) ≡ advanced_word (at + 6) (number_at s (at + 4))
  unfolding number_at
  constant_is =
      let sum : at + 6 ≡ at + 4 + 2 = omega arith in
      rw sum
      (signed_field_taken s end 31768 33768 (at + 4) (advanced (at + 3 + 1) (get_or s (at + 3) 0)) refl (omega arith) (omega arith)
      (and_right r4 r5 from4))

-- the whole guard
pub guard_plain :
    (s : List ℕ) (end most parameters clocks at : ℕ) (cursor : Cursor) (word : ℕ) (coefs : List ℤ) → cursor.ok ≡ true → cursor.at ≡ at →
    at + 6 + 2 * most ≤ end → parameters ≤ most → most ≤ PARAMETERS →
    head_right clocks (get_or s at 0) (get_or s (at + 1) 0) (get_or s (at + 2) 0) (get_or s (at + 3) 0) (number_at s (at + 4)) ≡ true →
    Kept s end most parameters (at + 6) (number_at s (at + 4)) most word coefs →
    guard_at s end most parameters clocks cursor
    ≡ record {
      cursor = advanced_word (at + 6 + 2 * most) word;
      guard =
          record {
            left = get_or s at 0;
            right = get_or s (at + 1) 0;
            bound = guard_bound (get_or s (at + 2) 0) (guard_expr (number_at s (at + 4)) coefs);
          };
    }
unfolding guard_at
guard_plain s end most parameters clocks at cursor word coefs o e room p m right k =
    let room6 : at + 6 ≤ end = omega arith in
    let read = kept_all s end most parameters (at + 6) (number_at s (at + 4)) word coefs p m k in
    rw (first_is s end clocks at cursor o e room6 right)
    (rw (second_is s end clocks at cursor o e room6 right)
    (rw (third_is s end clocks at cursor o e room6 right)
    (rw (fourth_is s end clocks at cursor o e room6 right)
    (rw (constant_is s end clocks at cursor o e room6 right) (rw (read.0, read.1) refl)))))

-- what is promised of a guard that was read so: it does not pass the end, and a cursor that stands there reads the same
pub record PlainRead (s : List ℕ) (end most parameters clocks at word : ℕ) (guard : Guard) : Type 0 where
  pub room : at + 6 + 2 * most ≤ end
  pub read :
      (cursor : Cursor) → cursor.ok ≡ true → cursor.at ≡ at →
      guard_at s end most parameters clocks cursor ≡ record { cursor = advanced_word (at + 6 + 2 * most) word; guard = guard }

-- it holds where all parts of the guard are right
pub plain_read :
    (s : List ℕ) (most parameters clocks at constant : ℕ) (head : Bool) (word last : ℕ) (list : List ℤ)
    (expr : Expr) (bound : Bound) →
    parameters ≤ most → most ≤ PARAMETERS → constant ≡ number_at s (at + 4) →
    head ≡ head_right clocks (get_or s at 0) (get_or s (at + 1) 0) (get_or s (at + 2) 0) (get_or s (at + 3) 0) constant → head ≡ true →
    CoefsKept s parameters (at + 6) constant parameters word list → ZerosKept s most parameters (at + 6) most →
    last ≡ cond (ltb parameters most) 32768 word →
    expr ≡ guard_expr constant list → bound ≡ guard_bound (get_or s (at + 2) 0) expr → (end : ℕ) → at + 6 + 2 * most ≤ end →
    PlainRead s end most parameters clocks at last (record { left = get_or s at 0; right = get_or s (at + 1) 0; bound = bound })
plain_read s most parameters clocks at constant head word last list expr bound p m ec eh h ka kz el ee eb end room =
    let right : head_right clocks (get_or s at 0) (get_or s (at + 1) 0) (get_or s (at + 2) 0) (get_or s (at + 3) 0) (number_at s (at + 4)) ≡ true =
    rw (sym ec) (sym eh ∙ h) in
    let k = ka end most p room in
    let z = kz end constant word list room k in
    let kept : Kept s end most parameters (at + 6) (number_at s (at + 4)) most last list = rw (el, sym ec) z in
    record {
      room = room;
      read =
          λ cursor o e.
          rw (eb, ee, ec) (guard_plain s end most parameters clocks at cursor last list o e room p m right kept);
    }
