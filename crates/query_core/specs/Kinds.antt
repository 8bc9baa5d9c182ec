-- The lists of a kind.
use Rattle.model.specs.declared.Kind.{Kind}
use Rattle.model.specs.declared.Kind.TheVariants.{General, Reserved}
use Rattle.lists.specs.declared.header.WhichList.{WhichList}
use Rattle.lists.specs.declared.header.WhichList.TheVariants.{GeneralFree, ReservedFree}

-- "either free list"
abbrev pub free_list : Kind → WhichList
free_list General = GeneralFree
free_list Reserved = ReservedFree
