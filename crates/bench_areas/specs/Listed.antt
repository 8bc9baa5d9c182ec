-- A list of areas in an array of 128.
use Rattle.std.specs.Prelude.{List}
use Rattle.model.specs.declared.Area.{Area}
use Rattle.model.specs.declared.Kind.TheVariants.{General}

-- what a contract sees of it: the areas, in order
pub record AreaList : Type 0 where
  pub items : List Area

-- what stands where there is no area
abbrev pub blank : Area
blank = record { start = 0; end = 0; kind = General }
