mod Bytewise
mod Plays
mod Wholeruns
