mod CaseSets
mod RootSets
mod LinesFrom
