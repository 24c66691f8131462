-- The tables of a host: their lists, and how many more rows each list takes in without memory.
use Rattle.plane_types.specs.Room.{TableRoom}
use Rattle.plane_types.specs.declared.lists.TableLists.{TableLists}

pub record Tables : Type 0 where
  pub lists : TableLists
  pub room : TableRoom
