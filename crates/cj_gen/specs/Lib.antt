pub mod Catalogues
pub mod Draws
pub mod MadeTracks
pub mod Orbits
pub mod Texts
