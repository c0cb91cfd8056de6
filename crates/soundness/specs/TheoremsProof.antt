-- The proof of Theorems: what Along has for any route, at the sheet's own.
use Rattle.concrete.specs.Walk.{sweep_at}
use Rattle.cutting.specs.Cutting.{zones_of}
use Rattle.timed.specs.Automaton.{route_of}
use Rattle.soundness.specs.Along.{along_agree, along_tightest, along_held}
use Rattle.soundness.specs.Theorems.{HeldIffRun, MatricesAgree, ZonesTightest}

pub matrices_agree : MatricesAgree
unfolding zones_of sweep_at
matrices_agree s zs q v i h = along_agree s (route_of s) zs q v i h

pub zones_tightest : ZonesTightest
unfolding zones_of
zones_tightest s f zs q v i h = along_tightest s (route_of s) zs q v i f h

pub held_iff_run : HeldIffRun
unfolding zones_of
held_iff_run s f zs q v i = along_held s (route_of s) zs q v i f
