-- A stack of zones: what they hold together, and a step of it.
use Rattle.std.specs.Prelude.{◌≡◌, refl, Bool, cond, List, [], ◌∷◌, ℕ, zero, suc, ◌+◌, ◌-◌, ◌*◌, ◌<◌, ltb, eqb, ℤ, length, get_or, set}
use Rattle.std.proofs.Common.{ap, ◌∙◌, arith}
use Rattle.cells.specs.Cells.{rows_from}
use Rattle.expr.specs.Records.{range_list}
use Rattle.expr.specs.declared.range.Ranges.{Ranges}
use Rattle.siblings.specs.Siblings.{first_of}
use Rattle.valuations.specs.Valuations.{count}
use Rattle.zones.specs.declared.zone.Zone.{Zone}
use Rattle.kept.specs.declared.stack.Item.{Item}
use Rattle.kept.specs.declared.stack.Stack.{Stack}
use Rattle.kept.specs.declared.stack.Top.{Top}

-- how many valuations of the ranges zones hold, each by itself
unfoldable pub held_in : Ranges → List Zone → ℕ
held_in b [] = 0
held_in b (z ∷ zs) = count (range_list b) (first_of z.ineqs z.count) + held_in b zs

-- what is read past an end
abbrev pub no_item : Item
no_item = record { at = 0; count = 0 }

abbrev pub no_zone : Zone
no_zone = record { count = 0; ineqs = []; bounds = [] }

-- how many valuations of the ranges an item holds, and the first k items
abbrev pub held_by_item : Ranges → List Zone → Item → ℕ
held_by_item b zs q = count (range_list b) (first_of (get_or zs q.at no_zone).ineqs q.count)

unfoldable pub held_on : Ranges → List Zone → List Item → ℕ → ℕ
held_on b zs l zero = 0
held_on b zs l (suc k) = held_on b zs l k + held_by_item b zs (get_or l k no_item)

-- the inequalities of the zone at place p of a list of numbers, of which so many count
abbrev pub zone_at : List ℤ → List ℕ → ℕ → Zone
zone_at l ns p = record { count = get_or ns p 0; ineqs = rows_from l (50 * p) 24; bounds = [] }

unfoldable pub zones_from : List ℤ → List ℕ → ℕ → ℕ → List Zone
zones_from l ns p zero = []
zones_from l ns p (suc n) = zone_at l ns p ∷ zones_from l ns (suc p) n

-- those of the first 32 places
abbrev pub zones_in : List ℤ → List ℕ → List Zone
zones_in l ns = zones_from l ns 0 32

pub zones_long : (l : List ℤ) (ns : List ℕ) (n p : ℕ) → length (zones_from l ns p n) ≡ n
unfolding zones_from
zones_long l ns zero p = refl
zones_long l ns (suc n) p = ap suc (zones_long l ns n (suc p))

zones_from_lem : (l : List ℤ) (ns : List ℕ) (n p x : ℕ) → x < n → get_or (zones_from l ns p n) x no_zone ≡ zone_at l ns (p + x)
unfolding zones_from
zones_from_lem l ns zero p x h = absurd (omega arith)
zones_from_lem l ns (suc n) p zero h = ap (zone_at l ns) (omega arith)
zones_from_lem l ns (suc n) p (suc x) h = zones_from_lem l ns n (suc p) x (omega arith) ∙ ap (zone_at l ns) (omega arith)

pub zones_at_lem : (l : List ℤ) (ns : List ℕ) (x : ℕ) → x < 32 → get_or (zones_in l ns) x no_zone ≡ zone_at l ns x
zones_at_lem l ns x h = zones_from_lem l ns 32 0 x h ∙ ap (zone_at l ns) (omega arith)

-- nothing on top
abbrev pub no_top : Top
no_top = record { below = 0; top = 0; level = 0 }

-- the two items on top
abbrev pub top_if : Bool → Item → Item → Top
top_if same a b = cond same (record { below = a.at; top = b.at; level = a.count }) no_top

abbrev pub top_by : Item → Item → Top
top_by a b = top_if (eqb a.count b.count) a b

unfoldable pub top_of : Stack → Top
top_of s = cond (ltb s.count 2) no_top (top_by (get_or s.list (s.count - 2) no_item) (get_or s.list (s.count - 1) no_item))

-- the two items on top as one
abbrev pub join_of : Stack → Top → Stack
join_of s t =
    cond (ltb s.count 2) s
    (record {
      next = s.next;
      count = s.count - 1;
      list = set s.list (s.count - 2) (record { at = t.below; count = t.level - 1 });
    })

-- one item more
abbrev pub push_of : Stack → ℕ → Stack
push_of s m =
    record { next = s.next + 1; count = s.count + 1; list = set s.list s.count (record { at = s.next; count = m }) }

abbrev pub pass_of : Stack → Stack
pass_of s = record { next = s.next + 1; count = s.count; list = s.list }

unfoldable pub step_of : Stack → Top → Bool → ℕ → ℕ → Stack
step_of s t joined n m =
    cond joined (join_of s t) (cond (ltb s.next n) (cond (ltb s.count n) (push_of s m) (pass_of s)) (pass_of s))
