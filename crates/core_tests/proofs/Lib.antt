mod Cuts
mod Runnable
